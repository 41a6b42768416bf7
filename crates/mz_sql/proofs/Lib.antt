pub mod AskedLemmas
pub mod CuttingLemmas
pub mod FaultLemmas
pub mod FormLemmas
