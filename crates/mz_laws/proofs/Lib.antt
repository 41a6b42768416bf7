pub mod Passed
pub mod ReadSteps
pub mod Accepted
