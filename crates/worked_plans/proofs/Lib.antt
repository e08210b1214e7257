pub mod Worked
pub mod Edges
