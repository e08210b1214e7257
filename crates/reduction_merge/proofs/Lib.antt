pub mod Wide
pub mod Additions
pub mod RangeSteps
pub mod Folding
pub mod Bounds
