pub mod Bits
pub mod Keys
pub mod Links
pub mod Marks
pub mod Put
