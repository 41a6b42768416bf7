pub mod Asking
pub mod CarryingNext
pub mod OfLog
pub mod Planning
pub mod RoundCarried
