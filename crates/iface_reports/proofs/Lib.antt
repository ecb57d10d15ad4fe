mod LastThree
mod Alerts
pub mod Quiet
