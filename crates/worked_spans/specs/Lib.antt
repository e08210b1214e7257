pub mod Samples
pub mod Given
pub mod Computed
