pub mod TagLoop
pub mod Listed
pub mod Sides
