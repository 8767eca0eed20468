pub mod Back
pub mod Laws
pub mod LetterLaws
pub mod Place
