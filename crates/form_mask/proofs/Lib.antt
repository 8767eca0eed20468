pub mod Back
pub mod Laws
pub mod MaskLaws
pub mod MaskText
pub mod Place
pub mod RateLaws
