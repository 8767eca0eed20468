pub mod Cut
pub mod Edit
pub mod New
pub mod Reader
pub mod Caught
