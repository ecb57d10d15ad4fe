pub mod Lists
pub mod Grows
pub mod Calls
pub mod Sends
pub mod Opening
pub mod Taking
pub mod Theorem
pub mod AloneLemmas
pub mod DecodedLemmas
pub mod Freed
mod Came
