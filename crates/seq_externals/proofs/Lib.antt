pub mod TextLoop
pub mod Printing
pub mod TextLists
