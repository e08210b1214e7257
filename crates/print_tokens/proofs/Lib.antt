pub mod Decoding
pub mod Ends
pub mod Names
pub mod Fronts
pub mod Spans
pub mod Whole
