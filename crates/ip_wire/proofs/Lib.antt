pub mod Numbers
pub mod Joined
pub mod EthernetLaws
pub mod FragmentLaws
pub mod ArpLaws
