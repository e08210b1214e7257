pub mod Pointers
pub mod Spelling
pub mod Steps
