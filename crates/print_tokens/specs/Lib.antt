pub mod Tokens
pub mod Standing
pub mod Laws
