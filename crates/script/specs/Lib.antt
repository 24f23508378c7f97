pub mod Consoles
pub mod Lines
pub mod Parts
pub mod Sessions
pub mod Shown
pub mod Words
pub mod Worked
