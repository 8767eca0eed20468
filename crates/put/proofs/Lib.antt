pub mod Chain
pub mod PlainLaws
pub mod SignTexts
