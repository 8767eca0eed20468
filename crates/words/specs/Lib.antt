pub mod Nth
pub mod Fields
pub mod Codes
pub mod Forms
pub mod Table
pub mod Words
