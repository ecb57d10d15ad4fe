-- Acknowledgements that come at the right edge of a window.
pub mod Sent
pub mod Comes
pub mod RcvAdv
pub mod Whole
pub mod Spans
