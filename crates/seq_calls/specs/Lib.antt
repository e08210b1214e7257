pub mod Format
pub mod Names
