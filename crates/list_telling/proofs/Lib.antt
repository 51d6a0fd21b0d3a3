pub mod AnswerLemmas
pub mod GramLemmas
pub mod PlaceLemmas
pub mod RowLemmas
pub mod Told
pub mod WidthLemmas
