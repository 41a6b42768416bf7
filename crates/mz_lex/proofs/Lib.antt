pub mod CutLemmas
pub mod LoweredLemmas
pub mod QuotedLemmas
pub mod ReachLemmas
pub mod RunLemmas
pub mod TotalLemmas
pub mod Utf8Lemmas
