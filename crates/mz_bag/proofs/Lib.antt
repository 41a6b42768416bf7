pub mod BagLaws
pub mod MassLaws
pub mod NegatedCounts
pub mod SortedCounts
pub mod StoredCounts
