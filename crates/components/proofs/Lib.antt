mod Options
mod Maps
mod PortNumbers
mod PortLists
mod PortFields
mod PortShapes
mod PortCounts
mod Words
pub mod Alike
mod KeptPairs
