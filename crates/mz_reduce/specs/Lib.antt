pub mod Counting
pub mod Grouping
pub mod Laws
pub mod Orders
pub mod Totals
