pub mod Sizes
pub mod Sets
pub mod Meanings
pub mod Bits
pub mod Bitmaps
