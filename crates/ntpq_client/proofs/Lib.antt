pub mod TalkLemmas
pub mod DialogueLemmas
pub mod EndLemmas
pub mod ConverseLemmas
pub mod AskLemmas
pub mod AnsweredLemmas
mod WorkedFacts
