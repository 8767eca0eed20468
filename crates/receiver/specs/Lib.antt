pub mod Settings
pub mod Command
