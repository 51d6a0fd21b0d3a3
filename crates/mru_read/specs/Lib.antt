pub mod Pages
pub mod Histories
pub mod Sizes
pub mod Walks
pub use Rattle.recency.specs.Rows
pub use Rattle.mru_items.specs.Queries
pub use Rattle.mru_items.specs.Answers
