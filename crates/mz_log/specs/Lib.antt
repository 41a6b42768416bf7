pub mod Log
pub mod Sequential
pub mod CarriedOut
