pub mod OrderLemmas
pub mod RootLemmas
pub mod TimeLemmas
mod StandardFacts
