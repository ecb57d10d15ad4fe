pub mod Asked
pub mod Carried
pub mod Steps
pub mod Words
