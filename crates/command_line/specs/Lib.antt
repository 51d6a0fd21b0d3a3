pub mod Notices
pub use Rattle.edge_traits.specs.Told
