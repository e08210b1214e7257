pub mod Initial
pub mod Works
