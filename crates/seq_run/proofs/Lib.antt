pub mod Firsts
pub mod Heads
pub mod Globals
pub mod Places
