pub mod Loops
pub mod Counts
pub mod Spans
pub mod Marks
pub mod Views
pub mod Solo
pub mod Ends
pub mod Laws
