pub mod ClassLemmas
pub mod ControlLemmas
pub mod MoveLemmas
pub mod ReadLemmas
pub mod ReadProps
pub mod HistoryLemmas
pub mod JournalLemmas
pub mod ReplyLemmas
pub mod ResponseLemmas
pub mod ShownLemmas
mod StandardFacts
pub mod StateLemmas
pub mod VerdictLemmas
mod WorkedFacts
