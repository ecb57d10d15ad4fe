-- Two sockets over whatever lies between: the events that can happen to them, what each does, and what holds of every list of them.
pub mod Sides
pub mod History
pub mod Values
pub mod Steps
pub mod Safe
pub mod Examples
