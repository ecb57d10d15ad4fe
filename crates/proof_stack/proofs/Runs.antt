-- Runs of two hosts' sockets, and why none leads to the bad ones.
pub mod Initial
pub mod DatagramRun
pub mod LoneRun
pub mod CandidatesRun
pub mod FallbackRun
pub mod Playing
pub mod OpeningRun
pub mod Worlds
pub mod ConnectionRun
pub mod ConnectionEnd
pub mod ExcludedNets
pub mod BadWorlds
