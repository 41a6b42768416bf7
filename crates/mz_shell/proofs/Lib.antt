pub mod LineLemmas
pub mod WholeLemmas
pub mod KeptLemmas
pub mod ReadingLemmas
pub mod TakeLemmas
pub mod StreamLemmas
pub mod NextLemmas
pub mod AnswerLemmas
