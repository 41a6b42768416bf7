pub mod ColumnRules
pub mod FoundForms
pub mod FoundRules
pub mod JoinMass
pub mod NodeRules
pub mod RowsRules
