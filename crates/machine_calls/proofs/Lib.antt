pub mod Changes
pub mod Follows
pub mod Turning
