-- Insertion, forced reinsertion and splits.
pub mod Insertion
