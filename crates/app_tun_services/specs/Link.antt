pub mod Turn
pub mod Answer
pub mod Reset
pub mod Fault
pub mod Drain
