-- Selections, step by step and as a whole.
pub mod Folds
pub mod Traversals
pub mod Complete
pub mod Chains
pub mod Progress
