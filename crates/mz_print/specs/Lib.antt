pub mod Joined
pub mod Piece
pub mod Print
pub mod Writer
