pub mod Places
pub mod Turns
pub mod Plain
pub mod Rest
