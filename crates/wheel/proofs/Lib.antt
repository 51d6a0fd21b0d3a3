pub mod PassingLemmas
mod WorkedFacts
