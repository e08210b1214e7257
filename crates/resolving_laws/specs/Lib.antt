pub mod Looking
pub mod Constants
pub mod Resolved
pub mod Places
pub mod Laws
