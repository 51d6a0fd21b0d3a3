pub mod Readers
pub mod Knowing
pub use Rattle.ntpq_client.specs.Dialogues
pub use Rattle.ntpq_client.specs.Requests
pub use Rattle.mru_items.specs.Answers
pub use Rattle.mru_items.specs.Queries
