pub mod Asked
pub mod Cutting
pub mod Form
