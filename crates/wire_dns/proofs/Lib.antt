pub mod Found
pub mod Names
pub mod Plain
pub mod Query
pub mod Texts
