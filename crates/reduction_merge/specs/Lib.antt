pub mod Partials
pub mod Operands
