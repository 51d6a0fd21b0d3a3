pub mod LineLemmas
mod WorkedFacts
