pub mod Pieces
pub mod Operands
pub mod Instructions
pub mod Items
pub mod Nesting
