pub mod Journal
pub mod History
pub mod Slots
