pub mod Ranges
pub mod Runs
pub mod Steps
pub mod Maps
