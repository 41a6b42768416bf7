pub mod Members
pub mod Waiting
pub mod Fronts
pub mod Calls
pub mod RealTime
