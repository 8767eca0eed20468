pub mod DoesLaws
pub mod LineLaws
pub mod SettingsLaws
pub mod StepLaws
