pub mod Laws
pub mod Until
pub mod Open
pub mod History
pub mod SliceLines
