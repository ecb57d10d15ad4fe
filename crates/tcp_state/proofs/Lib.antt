mod CubicLaws
mod RoundTripLaws
mod CongestionLaws
pub mod NothingHeld
pub mod Isns
pub mod Words
pub mod SipSteps
