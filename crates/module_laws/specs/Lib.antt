pub mod Behind
pub mod Heads
pub mod Blocks
pub mod Skipped
pub mod ItemsSpelled
pub mod TextLaws
