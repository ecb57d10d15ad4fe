-- Runs of two hosts' sockets on numerals, and bad histories.
pub mod Hosts
pub mod Datagrams
pub mod Streams
pub mod Open
pub mod Lone
pub mod Candidates
pub mod Fallback
pub mod Played
pub mod Opening
pub mod Connection
pub mod Excluded
pub mod BadWorlds
