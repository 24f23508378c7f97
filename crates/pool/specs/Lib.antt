pub mod Paths
pub mod Pools
