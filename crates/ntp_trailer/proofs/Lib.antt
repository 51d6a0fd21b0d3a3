pub mod DivisionLemmas
pub mod EndingLemmas
pub mod AuthenticLemmas
pub mod PacketLemmas
mod StandardFacts
