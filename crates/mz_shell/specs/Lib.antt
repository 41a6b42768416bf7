pub mod Lines
pub mod Transcript
pub mod Carrier
pub mod Reading
pub mod Runs
