pub mod Laws
pub mod Form
pub mod Xor
pub mod Ending
