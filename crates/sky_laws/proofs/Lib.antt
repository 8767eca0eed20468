pub mod Exactly
pub mod Half
pub mod InRange
pub mod LineGood
pub mod Numbers
pub mod ReadWrite
pub mod Took
pub mod WriteRead
