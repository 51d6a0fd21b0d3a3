pub mod OnceLemmas
pub mod CommandLemmas
pub mod OpeningLemmas
pub mod ServeLemmas
mod WorkedFacts
