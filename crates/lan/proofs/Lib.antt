pub mod AnswerLemmas
pub mod TextsOnce
mod LinesOnce
pub mod BytesLemmas
pub mod RunLemmas
pub mod FragmentLemmas
pub mod Outcomes
pub mod Beginnings
pub mod SocketLemmas
pub mod EndLemmas
pub mod Worlds
