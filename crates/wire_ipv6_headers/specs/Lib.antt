pub mod Options
pub mod Headers
