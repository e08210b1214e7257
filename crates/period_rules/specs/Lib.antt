pub mod Pieces
pub mod Verdicts
pub mod Commits
pub mod Ends
pub mod Runs
pub mod Likeness
pub mod Laws
