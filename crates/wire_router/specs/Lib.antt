pub mod Options
pub mod RouterOption
pub mod Advert
pub mod Solicit
