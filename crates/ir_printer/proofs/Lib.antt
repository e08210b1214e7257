pub mod Spelled
pub mod Stacks
pub mod Parts
pub mod Bracketing
pub mod Sites
