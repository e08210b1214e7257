pub mod NameKeys
pub mod Tested
