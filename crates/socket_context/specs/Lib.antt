pub mod Addresses
pub mod Context
pub mod Moments
pub mod Offers
pub mod Packet
pub mod SegmentPayload
pub mod WellFormed
pub mod Widths
