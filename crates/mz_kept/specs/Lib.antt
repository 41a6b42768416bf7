pub mod Kept
pub mod Steps
pub mod Within
pub mod Standing
pub mod Carrying
pub mod Taken
