pub mod Fields
pub mod Places
pub mod Part
pub mod FieldN
pub mod Parts
