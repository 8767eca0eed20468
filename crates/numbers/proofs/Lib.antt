pub mod Fitting
pub mod Layouts
pub mod Arrays
pub mod Values
pub mod Laying
pub mod Rows
