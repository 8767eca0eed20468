pub mod Index
pub mod Answers
pub mod Places
