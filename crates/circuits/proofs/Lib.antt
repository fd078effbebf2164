pub mod Names
pub mod Lists
pub mod Steps
pub mod MadeSteps
pub mod OneWay
pub mod Sides
pub mod TaggerRow
pub mod Rows
pub mod Fitting
pub mod Simulation
pub mod Linking
pub mod Beside
pub mod Refining
pub mod Matching
pub mod Buffers
mod Rest
mod Plugging
mod Renaming
mod Transitive
mod Renamed
mod Replacing
mod ReplacedGraph
mod Alone
mod GraphCircuits
mod PluggedGraphs
mod TaggerOrder
