pub mod Order
pub mod Part
pub mod Passing
pub mod SingleNodes
pub mod Laws
