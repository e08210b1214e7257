pub mod FunctionLemmas
pub mod NameKeyLemmas
pub mod NumberLemmas
pub mod ReadingLemmas
pub mod RowLemmas
pub mod SumLemmas
pub mod TestedLemmas
pub mod WithinLemmas
