pub mod Duplicates
pub mod PeerHost
pub mod Progress
pub mod Worlds
pub mod Requests
