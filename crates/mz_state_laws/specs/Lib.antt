pub mod Changes
pub mod Evaluable
pub mod Growth
pub mod Kinds
pub mod Reads
pub mod Unchanged
pub mod Well
