pub mod Advancing
pub mod Globals
