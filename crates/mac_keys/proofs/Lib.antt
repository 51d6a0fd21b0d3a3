pub mod ComparisonLemmas
pub mod KeyLineLemmas
pub mod KeyTextLemmas
pub mod KeyWordLemmas
pub mod OneAnswerLemmas
pub mod TableLemmas
mod WorkedFacts
