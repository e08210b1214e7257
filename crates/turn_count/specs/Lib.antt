pub mod Turns
pub mod Arcs
pub mod Walks
