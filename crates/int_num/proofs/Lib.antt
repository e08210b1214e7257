pub mod Powers
pub mod Residues
pub mod Ranges
pub mod Signs
pub mod Quotients
pub mod Widths
pub mod LittleEndian
