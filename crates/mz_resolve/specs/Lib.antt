pub mod InCatalog
pub mod Known
pub mod Lone
pub mod Parts
pub mod Unknown
pub mod Waiting
