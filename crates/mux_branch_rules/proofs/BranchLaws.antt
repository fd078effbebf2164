-- The rules branch_combine and branch_combine0: their graphs can be made, they are sound, and what an instance is.
pub mod BranchNodes
pub mod BranchWires
pub mod BranchMade
pub mod BranchInstances
