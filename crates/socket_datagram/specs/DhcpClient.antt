-- The client of DHCP: what its contracts speak of.
pub mod Answers
pub mod Events
pub mod Extras
pub mod Laws
pub mod Leases
pub mod Moments
pub mod Offers
pub mod Requests
pub mod States
pub mod Value
