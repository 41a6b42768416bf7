pub mod ClimbLemmas
pub mod KnownLemmas
pub mod LoneLemmas
pub mod NameLemmas
pub mod PartsOfSelect
pub mod PathLemmas
pub mod RelationLemmas
pub mod UnknownLemmas
