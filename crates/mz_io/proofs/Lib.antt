pub mod CauseLemmas
pub mod FrontLemmas
