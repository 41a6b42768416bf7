pub mod Kept
pub mod Lines
pub mod Reducing
pub mod StreamBook
