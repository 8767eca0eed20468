pub mod Laying
pub mod Taking
pub mod Back
