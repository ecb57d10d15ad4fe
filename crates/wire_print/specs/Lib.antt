pub mod Names
pub mod Headers
