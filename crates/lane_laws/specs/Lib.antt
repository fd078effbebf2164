pub mod SplitJoin
pub mod TrimFork
pub mod CombineBranches
pub mod CombineMuxes
pub mod GraphTree
pub mod Laws
