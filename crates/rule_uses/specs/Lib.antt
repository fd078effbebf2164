pub mod Gather
pub mod Laws
