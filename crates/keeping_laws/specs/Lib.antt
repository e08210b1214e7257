pub mod Keeping
pub mod Constants
pub mod Modules
pub mod Trees
pub mod Laws
