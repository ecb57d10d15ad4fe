pub mod Joint
pub mod Peers
pub mod Net
pub mod NetTaken
pub mod Examples
