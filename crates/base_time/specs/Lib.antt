pub mod Rand
pub mod Text
pub mod Time
