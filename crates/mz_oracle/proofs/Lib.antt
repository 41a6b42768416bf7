pub mod Examples
pub mod RoundLemmas
pub mod TimeLemmas
