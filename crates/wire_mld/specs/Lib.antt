pub mod MldMessage
pub mod Mld
