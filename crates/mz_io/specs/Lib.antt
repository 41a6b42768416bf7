pub mod Causes
pub mod Written
pub mod Memory
pub mod Adapters
