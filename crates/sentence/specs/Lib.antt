pub mod Sentence
pub mod Kinds
pub mod Lines
pub mod Numbers
pub mod Back
pub mod ToHost
pub mod FromHost
