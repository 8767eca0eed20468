pub mod LoopLaws
pub mod Placing
pub mod RepeatLaws
pub mod Sizes
pub mod SoundLaws
pub mod StepLaws
