pub mod Apart
pub mod Laws
pub mod Lasts
pub mod Steps
pub mod Runs
pub mod Maps
