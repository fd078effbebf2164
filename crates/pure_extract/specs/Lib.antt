pub mod DropBuffer
pub mod SplitJoin
pub mod TrimFork
pub mod TrimForkSides
pub mod SplitJoinSides
