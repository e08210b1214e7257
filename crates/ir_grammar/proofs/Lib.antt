mod Cases
pub mod NamedLemmas
