mod WorkedFacts
pub mod GoingLemmas
pub mod ServiceLemmas
pub mod WireLemmas
pub mod LinkLemmas
pub mod BeginLemmas
pub mod EndLemmas
