pub mod BranchCombine
pub mod BranchSides
pub mod MuxCombine
pub mod MuxSides
pub mod MuxTree
