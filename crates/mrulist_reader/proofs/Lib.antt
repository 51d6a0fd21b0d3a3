pub mod KnownLemmas
pub mod TableLemmas
pub mod TrailLemmas
