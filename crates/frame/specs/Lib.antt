pub mod Body
pub mod Written
