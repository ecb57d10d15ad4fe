-- What the link hands over: what was made, frames, numbers, slots.
pub mod Made
pub mod Frames
pub mod Numbers
pub mod StoredFragments
pub mod Sides
