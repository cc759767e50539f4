-- Nodes and whole trees.
pub mod ByChildren
pub mod Trees
pub mod Heights
pub mod WholeTrees
pub mod Shown
pub mod Clones
