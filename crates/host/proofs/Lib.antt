pub mod Rooms
pub mod Skies
pub mod Puts
pub mod Stepping
