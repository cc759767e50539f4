-- Joins of two trees, and of one with itself.
pub mod PairsByChildren
pub mod MarkedPairs
pub mod PairWalks
pub mod SelfPairs
pub mod MeetingNodes
pub mod Joined
