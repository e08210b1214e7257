pub mod Globals
pub mod Filled
pub mod Programs
pub mod Laws
