pub mod Inserted
pub mod DropBufferLaws
pub mod SplitJoinLaws
pub mod TrimForkLaws
