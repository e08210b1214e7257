pub mod Ranges
pub mod Tables
pub mod Sizes
pub mod ByteCodes
pub mod RangeEdits
pub mod Refusals
pub mod Histories
pub mod Meanings
