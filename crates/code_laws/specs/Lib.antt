pub mod Meanings
pub mod Ops
pub mod Coded
pub mod Pictured
pub mod Runs
pub mod Laws
