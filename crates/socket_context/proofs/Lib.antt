pub mod Equal
pub mod Lengths
pub mod Texts
