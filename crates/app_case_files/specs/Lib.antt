-- How many bytes were read, and their sum.
pub mod Tallies
