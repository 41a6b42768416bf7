pub mod Change
pub mod Joining
pub mod Laws
pub mod Moments
pub mod Step
pub mod Stepping
