-- Circuits joined at Entries and Exits.
pub mod Typed
pub mod Links
pub mod Regrouping
pub mod Splitting
pub mod Parts
