pub mod Asked
pub mod Done
pub mod Stored
pub mod Tables
pub mod Told
