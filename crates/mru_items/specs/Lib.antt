pub mod Names
pub mod Values
pub mod Queries
pub mod Answers
pub use Rattle.mode6_frame.specs.Cuts
pub use Rattle.mode6_frame.specs.Items
pub use Rattle.mode6_frame.specs.ItemTexts
pub use Rattle.mode6_frame.specs.Readings
pub use Rattle.mode6_frame.specs.Stamps
pub use Rattle.net_addr.specs.Addresses
pub use Rattle.net_addr.specs.Spelling
pub use Rattle.net_addr.specs.Readings as AddressReadings
pub use Rattle.text_words.specs.Numbers
