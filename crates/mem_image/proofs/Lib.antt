pub mod Objects
pub mod Kept
pub mod Meanings
pub mod Lookups
