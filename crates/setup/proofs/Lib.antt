pub mod FileLemmas
pub mod ListeningLemmas
pub mod NameLemmas
pub mod SessionLemmas
mod WorkedFacts
