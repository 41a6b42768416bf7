pub mod Kept
pub mod PeekBook
