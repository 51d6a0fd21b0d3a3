pub mod NameLemmas
pub mod VariableLemmas
pub mod TextLemmas
pub mod CutLemmas
pub mod ShortLemmas
pub mod ValueLemmas
pub mod WritableLemmas
pub mod AnswerLemmas
mod StandardFacts
