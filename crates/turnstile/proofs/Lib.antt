mod Sums
mod Keeps
mod Walks
mod Calls
mod Gathers
