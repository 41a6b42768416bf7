pub mod Carries
pub mod CarriedLists
pub mod ContentsLaws
pub mod LightLists
pub mod Merged
pub mod MovingUp
pub mod RowBags
pub mod WorkedRows
