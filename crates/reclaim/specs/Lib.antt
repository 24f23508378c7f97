pub mod Giving
pub mod Leavers
pub mod Leaving
pub mod Taking
pub mod Trees
