pub mod GapEnds
pub mod GapMoves
