pub mod Draws
pub mod Shifts
