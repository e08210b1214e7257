pub mod Status
pub mod Answers
pub mod Loading
pub mod Texts
pub mod Commands
