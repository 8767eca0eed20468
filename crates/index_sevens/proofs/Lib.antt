pub mod Groups
pub mod Steps
pub mod Taking
pub mod Turns
