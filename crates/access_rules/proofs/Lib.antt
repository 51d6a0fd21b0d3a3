pub mod EditLemmas
pub mod LastRuleLemmas
pub mod OrderLemmas
pub mod PlaceLemmas
pub mod RuleLemmas
pub mod WorkedFacts
