mod LaneLists
mod MuxRows
mod BranchLaws
mod MuxLaws
