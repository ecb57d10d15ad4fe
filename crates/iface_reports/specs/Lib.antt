pub mod Reports
pub mod Heard
pub mod Told
pub mod Frames
pub mod Transmits
