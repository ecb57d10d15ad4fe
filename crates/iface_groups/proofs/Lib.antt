pub mod Members
pub mod Histories
pub mod Queriers
pub mod Tables
