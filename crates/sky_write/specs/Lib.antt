pub mod Looks
pub mod Ready
pub mod Size
