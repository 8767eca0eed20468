pub mod Damage
pub mod MarkLaws
pub mod Numbers
