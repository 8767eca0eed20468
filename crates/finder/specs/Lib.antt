pub mod Finder
pub mod Slice
pub mod Until
