pub mod Typing
pub mod States
pub mod Trees
pub mod Laws
