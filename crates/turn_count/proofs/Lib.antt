pub mod Counts
pub mod Laps
pub mod Predicates
pub mod Circles
pub mod Arcs
pub mod Turning
