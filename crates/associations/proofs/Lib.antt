pub mod AnswerLemmas
pub mod ChoosingLemmas
pub mod JudgingLemmas
pub mod MarkLemmas
pub mod NumberLemmas
pub mod ReadingLemmas
pub mod ShowingLemmas
pub mod TakingLemmas
mod WorkedFacts
