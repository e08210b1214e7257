pub mod FileLemmas
pub mod LoadLemmas
pub mod CommandLemmas
pub mod WantedLemmas
