pub mod ArrangedLaws
pub mod KeyLaws
pub mod KeyOrder
pub mod OrderedLaws
pub mod WorkedRows
