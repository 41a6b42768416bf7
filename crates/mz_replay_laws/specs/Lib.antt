pub mod Well
pub mod Reads
pub mod Replays
