pub mod Message
pub mod Reason
pub mod Packet
pub mod NdiscOption
pub mod Ndisc
pub mod Icmpv6
