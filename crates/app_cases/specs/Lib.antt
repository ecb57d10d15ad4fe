-- What the program writes of a script, and what the host of its clients answers.
pub mod Cases
pub mod Source
