pub mod Shadows
pub mod Views
pub mod History
pub mod Meaning
