pub mod Asked
pub mod Faults
pub mod Grammar
pub mod Joined
pub mod Token
