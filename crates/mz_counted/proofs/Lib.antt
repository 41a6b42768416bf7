pub mod Each
pub mod Falling
pub mod Multiset
