pub mod EntryLaws
pub mod Firsts
pub mod GoodLaws
pub mod Laws
pub mod Places
pub mod Numbers
