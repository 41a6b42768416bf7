pub mod KeptLaws
pub mod PartLaws
