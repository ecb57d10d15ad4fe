pub mod BoxAtPointer
pub mod Answers
pub mod Values
pub mod Hosts
pub mod Configuring
