pub mod ColumnLemmas
pub mod Fronts
pub mod TestRules
