pub mod Bytes
pub mod Cut
pub mod Fault
pub mod Lowered
pub mod Quoted
pub mod Reach
pub mod Spelling
