pub mod Angle
pub mod Forms
pub mod Values
pub mod Numbers
