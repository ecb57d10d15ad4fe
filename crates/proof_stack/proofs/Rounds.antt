-- Rounds of a world that settles.
pub mod Takings
pub mod Whole
pub mod Sendings
pub mod OneRun
pub mod OnWay
pub mod Events
pub mod Walk
pub mod Unchanged
pub mod Arrives
pub mod Either
