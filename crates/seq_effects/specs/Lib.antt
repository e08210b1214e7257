pub mod Script
pub mod Values
pub mod Numbers
pub mod Words
pub mod Accesses
pub mod Flow
pub mod Effects
