pub mod Datum
pub mod Name
pub mod Row
pub mod RowOrder
