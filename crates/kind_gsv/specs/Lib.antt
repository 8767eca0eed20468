pub mod Blank
pub mod Row
pub mod Writing
