-- What the contracts of this crate speak of.
pub mod Codes
pub mod Message
pub mod Name
pub mod Text
