-- Runs of a host by itself: its machine, requests, their frames, quiet, damage.
pub mod Machine
pub mod HostRuns
pub mod RequestSilence
pub mod Wire
pub mod Proceeds
pub mod Quiet
pub mod Damage
