pub mod Messages
pub mod Written
pub mod Equal
