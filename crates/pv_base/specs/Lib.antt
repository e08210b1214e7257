pub mod Outside
pub mod External
pub mod InMemory
pub mod Views
pub mod Limits
