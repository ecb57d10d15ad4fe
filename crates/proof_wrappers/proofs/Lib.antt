pub mod Behind
pub mod OneBit
pub mod Unwatched
