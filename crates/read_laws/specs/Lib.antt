pub mod Describing
pub mod Laws
pub mod Functions
pub mod Modules
pub mod Types
pub mod Texts
