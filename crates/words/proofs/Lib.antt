pub mod NthLaws
pub mod FormLaws
pub mod TableLaws
