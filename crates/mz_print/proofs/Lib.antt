pub mod CutAgain
pub mod PieceFacts
pub mod PieceTokens
pub mod PrintRules
pub mod PrintedPieces
pub mod ReadAgain
pub mod Spelled
pub mod Writing
