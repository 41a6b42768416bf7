pub mod Counting
pub mod Found
pub mod Held
pub mod Tabled
