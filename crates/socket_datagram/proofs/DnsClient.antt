-- The client of DNS, lemmas.
pub mod Aliases
pub mod Among
pub mod Datagrams
pub mod Decided
pub mod Denied
pub mod Found
pub mod Given
pub mod OneVerdict
pub mod Sent
pub mod Stood
pub mod Taken
pub mod Turned
