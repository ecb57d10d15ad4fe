pub mod Peer
pub mod Run
pub mod Taken
pub mod Safe
pub mod Window
pub mod Examples
