pub mod ActLemmas
pub mod AddingLemmas
pub mod DidLemmas
pub mod RefusalLemmas
pub mod ServingLemmas
pub mod TurnLemmas
