pub mod Alike
pub mod Growth
pub mod OfScope
pub mod Sound
pub mod SoundOver
pub mod Star
pub mod TypedOver
pub mod WellFormed
