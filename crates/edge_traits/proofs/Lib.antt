pub mod MemoryLemmas
pub mod ReadLemmas
pub mod ToldLemmas
mod WorkedFacts
