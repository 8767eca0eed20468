pub mod Forms
pub mod Masks
pub mod Rates
