pub mod Texts
pub mod Usage
pub mod Numbers
pub mod CommandLine
pub mod Plain
pub mod Requests
pub mod PlainLines
