pub mod Acts
pub mod Frames
pub mod Meaning
pub mod Step
pub mod Owned
