pub mod TextLemmas
pub mod NumeralLemmas
pub mod ReadLemmas
pub mod PlainWalk
pub mod Entered
pub mod PlainCommand
pub mod PlainReads
