pub mod Capabilities
pub mod Device
pub mod Loopback
