pub mod RequestLemmas
pub mod WantedLemmas
pub mod DeliverLemmas
pub mod TopLemmas
