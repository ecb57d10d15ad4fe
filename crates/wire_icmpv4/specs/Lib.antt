pub mod Icmpv4Codes
pub mod Icmpv4
