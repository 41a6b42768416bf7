pub mod Arranged
pub mod Kept
