pub mod Trees
pub mod Paths
pub mod Laws
pub mod Steps
pub mod Calls
