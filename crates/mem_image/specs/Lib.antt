pub mod Picture
pub mod Pointers
pub mod Calls
pub mod Words
pub mod Bytes
pub mod Lookups
pub mod Entries
pub mod Laws
