pub mod Delivering
pub mod Requests
pub mod Ends
pub mod Laws
