-- Words that no public clause cites: what the private functions say of each other.
pub mod ParentBounds
pub mod Reserves
pub mod Paths
pub mod Traversals
pub mod WaysDown
pub mod Loads
pub mod Removals
pub mod Taking
pub mod Earliest
pub mod Gathering
pub mod Searches
pub mod SearchSteps
pub mod Fits
pub mod Few
pub mod PairWalks
pub mod Appends
