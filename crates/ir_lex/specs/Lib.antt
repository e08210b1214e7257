pub mod Classes
pub mod Forms
pub mod Spelling
pub mod Lexing
pub mod Cut
pub mod Faults
