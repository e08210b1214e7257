pub mod Scoping
pub mod Heads
pub mod Behind
pub mod Placing
pub mod Knowing
pub mod Gathered
pub mod Answering
pub mod Faulting
