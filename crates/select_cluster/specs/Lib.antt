pub mod Clustering
pub mod Combining
pub mod Edges
pub mod Selecting
