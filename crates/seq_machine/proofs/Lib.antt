pub mod Slots
pub mod Quiet
pub mod Owns
pub mod FrameLists
pub mod Kept
pub mod Steps
pub mod Slotted
