mod WorkedFacts
pub mod ServiceLemmas
pub mod LinkLemmas
