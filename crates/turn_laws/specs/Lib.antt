pub mod Over
pub mod Events
pub mod Sites
pub mod Turns
pub mod Traces
pub mod Laws
