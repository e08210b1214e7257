pub mod Integer
pub mod Laws
pub mod Operations
pub mod Reductions
pub mod Bytes
