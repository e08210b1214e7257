pub mod Greatest
pub mod Blocks
pub mod Clashes
