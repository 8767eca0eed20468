pub mod Answer
pub mod Command
pub mod Group
pub mod Index
