pub mod CatalogState
pub mod Dependents
pub mod Keyed
pub mod Oldest
