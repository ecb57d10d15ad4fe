-- A listener with a backlog.
pub mod Older
pub mod Relisting
pub mod Seen
pub mod Back
pub mod Gives
