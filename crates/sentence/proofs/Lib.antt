pub mod BodyLaws
pub mod Handing
pub mod Numbered
pub mod OnlyGsv
pub mod Order
pub mod Telling
