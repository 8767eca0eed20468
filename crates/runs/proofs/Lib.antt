pub mod Laws
pub mod Folded
pub mod Steps
pub mod Whole
