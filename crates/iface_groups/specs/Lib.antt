pub mod Member
pub mod Query
pub mod Querier
pub mod Counts
pub mod History
pub mod Table
