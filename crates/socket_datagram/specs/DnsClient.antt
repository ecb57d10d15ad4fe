-- The client of DNS: what its contracts speak of.
pub mod Laws
pub mod Offers
pub mod Processed
pub mod Records
pub mod Replies
pub mod Starts
pub mod Turns
pub mod Value
