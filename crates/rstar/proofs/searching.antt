-- Searches for neighbours.
pub mod Nearness
pub mod Searches
pub mod SearchTurns
pub mod ByOrder
pub mod Seeking
pub mod Ties
pub mod InOrder
pub mod OneOrder
pub mod Room
pub mod Few
