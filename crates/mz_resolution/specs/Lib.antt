pub mod Steps
pub mod Columns
pub mod Conditions
pub mod Listings
pub mod Queries
pub mod Resolution
