pub mod Totals
pub mod Wraps
pub mod Addressing
pub mod WordLoops
pub mod Follow
pub mod Operands
pub mod Arms
