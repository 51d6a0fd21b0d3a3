pub mod LineLemmas
pub mod WordLemmas
mod WorkedFacts
