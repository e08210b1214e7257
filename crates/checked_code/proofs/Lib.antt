pub mod Layouts
pub mod Sizes
pub mod Faults
pub mod Fitting
pub mod Entry
pub mod Starting
