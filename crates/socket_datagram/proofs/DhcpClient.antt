-- The client of DHCP, lemmas.
pub mod Apart
pub mod Datagrams
pub mod Ends
pub mod Given
pub mod Hosts
pub mod Masks
pub mod OneMessage
pub mod Sent
pub mod Short
pub mod Turns
pub mod Taken
pub mod TakenOptions
