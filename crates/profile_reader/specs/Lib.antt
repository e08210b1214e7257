pub mod Texts
pub mod Grammar
pub mod Reading
pub mod Standing
pub mod Reads
