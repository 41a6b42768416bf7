pub mod Batch
pub mod Carrying
pub mod Consolidated
pub mod Contents
