pub mod Areas
pub mod Emitted
pub mod Fixed
pub mod Held
pub mod ReadBack
pub mod Slots
pub mod Wholes
