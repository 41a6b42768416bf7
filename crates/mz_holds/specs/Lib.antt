pub mod HoldBook
pub mod Kept
