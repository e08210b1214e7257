pub mod Undo
pub mod Faults
pub mod SameKeys
pub mod Accepts
