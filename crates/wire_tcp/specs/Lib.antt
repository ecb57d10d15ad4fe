pub mod Control
pub mod Options
pub mod Seen
pub mod Tcp
pub mod Timestamp
pub use Rattle.base_time.specs.Rand
pub use Rattle.base_time.specs.Time
