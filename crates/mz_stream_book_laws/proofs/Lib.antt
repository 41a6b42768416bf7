pub mod Alone
pub mod Joinings
pub mod Live
pub mod Steps
pub mod Told
