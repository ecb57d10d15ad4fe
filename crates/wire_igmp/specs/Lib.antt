pub mod IgmpMessage
pub mod GroupRecord
pub mod Igmp
