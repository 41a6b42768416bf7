pub mod Bag
pub mod Mass
pub mod Weighted
