pub mod Splitting
pub mod Placing
pub mod Refusing
pub mod Joining
pub mod AllFields
pub mod Passing
pub mod FieldParts
