pub mod Places
pub mod First
pub mod Outcomes
pub mod Headers
