pub mod Buckets
pub mod Each
pub mod Examples
pub mod ReplyLemmas
pub mod SlotLemmas
pub mod Sorting
