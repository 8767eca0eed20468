pub mod Forms
pub mod Got
pub mod Kind
pub mod Row
pub mod Units
pub mod Values
pub mod Wrong
pub mod Numbers
