pub mod DigitLemmas
pub mod Fits
pub mod Forms
pub mod Shape
pub mod TokenFacts
pub mod Words
