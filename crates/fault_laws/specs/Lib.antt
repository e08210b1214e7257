pub mod Alike
pub mod Lexical
pub mod Texts
