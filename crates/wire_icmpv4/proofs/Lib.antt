pub mod Codes
pub mod Messages
pub mod Normal
pub mod Written
pub mod Equal
pub mod Lengths
