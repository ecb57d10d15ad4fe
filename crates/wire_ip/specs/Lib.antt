pub mod Parts
pub mod Udp
pub mod Ipv4
pub mod Ipv6
pub mod Ip
