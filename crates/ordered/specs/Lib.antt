pub mod Lent
pub mod Lists
pub mod Order
pub mod Tables
