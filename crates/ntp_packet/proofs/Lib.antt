pub mod FirstOctetLemmas
pub mod OctetLemmas
pub mod Spelling
mod StandardFacts
