pub mod CollectionBook
pub mod Kept
pub mod Pass
