pub mod Requests
pub mod Histories
