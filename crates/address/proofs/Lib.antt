pub mod Tables
pub mod Commas
