pub mod Carrying
pub mod TableLaws
pub mod Telling
