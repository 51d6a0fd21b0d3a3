pub mod Checks
pub mod Digests
pub mod KeyLines
pub mod KeyTexts
pub mod Tables
