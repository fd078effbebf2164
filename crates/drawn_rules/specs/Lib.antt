pub mod EndNames
pub mod Sides
pub mod Placed
pub mod Rows
pub mod Labels
pub mod RowEnds
pub mod Listed
