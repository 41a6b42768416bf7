pub mod Maintained
pub mod Tables
