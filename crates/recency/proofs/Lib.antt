pub mod ArrivalLemmas
pub mod ClientLemmas
pub mod ListLemmas
pub mod PlaceLemmas
pub mod RowLemmas
pub mod SweepLemmas
pub mod TouchLemmas
pub mod WorkedFacts
