-- The rule split_join: its graphs can be made, it is sound, and what an instance is.
pub mod SideNames
pub mod SplitJoinSound
pub mod SplitSides
pub mod SplitInstances
