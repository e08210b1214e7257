pub mod Commuting
pub mod Orders
pub mod Steps
