pub mod CutLaws
pub mod Machine
pub mod FirstNew
pub mod Point3
pub mod ReadOn
pub mod CutBack
