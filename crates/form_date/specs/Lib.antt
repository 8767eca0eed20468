pub mod Calendar
pub mod Dates
pub mod Forms
pub mod Values
pub mod Zone
pub mod Numbers
