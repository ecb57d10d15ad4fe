-- A host's moves over packets.
pub mod Made
pub mod HopLimit
pub mod Link
pub mod Follows
pub mod Joined
pub mod Raws
pub mod Protocols
pub mod Fit
pub mod ReceivedFrames
pub mod WasSent
pub mod Answered
