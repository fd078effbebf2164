-- A part of a circuit replaced by a circuit that refines it.
pub mod Sorts
pub mod LongNames
pub mod Cutting
pub mod EndLinks
pub mod Welding
pub mod Replaced
pub mod Renamed
pub mod Anywhere
