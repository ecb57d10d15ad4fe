-- What the contracts of this crate speak of.
pub mod Dhcp
pub mod MessageType
pub mod Normal
pub mod Options
pub mod Packet
pub mod Values
pub mod Written
