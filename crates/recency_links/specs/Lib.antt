pub mod Admissions
pub mod Lists
pub mod Nodes
pub mod Numbers
