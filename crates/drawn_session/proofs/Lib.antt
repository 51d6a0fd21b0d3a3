pub mod Matching
mod WorkedFacts
pub mod DrawLemmas
pub mod ClassLemmas
pub mod OpeningLemmas
pub mod RunLemmas
pub mod RowLemmas
pub mod RulesLemmas
pub mod ActLemmas
pub mod DrawingLemmas
pub mod ArrivingLemmas
pub mod EndLemmas
