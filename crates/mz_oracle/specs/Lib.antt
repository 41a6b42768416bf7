pub mod Oracle
pub mod Rounds
