pub mod Built
pub mod Flow
pub mod Flown
pub mod Nodes
pub mod Queues
pub mod Run
pub mod Stands
