pub mod Offsets
pub mod Storing
pub mod Fronts
pub mod RunsOf
pub mod Refused
