pub mod Begins
pub mod Taken
