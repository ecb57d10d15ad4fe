-- A listener with a backlog.
pub mod Stages
pub mod Entries
pub mod Oldest
pub mod Noted
pub mod GivesWay
pub mod Keepers
pub mod Calls
