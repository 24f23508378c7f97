pub mod Counts
pub mod Changes
pub mod Marks
pub mod Maps
pub mod Searches
