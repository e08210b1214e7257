pub mod TextLemmas
pub mod SetLemmas
pub mod KeepLemmas
pub mod ReadLemmas
pub mod AddLemmas
pub mod OpenLemmas
pub mod Counts
pub mod Periods
