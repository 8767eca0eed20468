pub mod Fixed
pub mod Forms
pub mod Number
pub mod Values
pub mod Numbers
