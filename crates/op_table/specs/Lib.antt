pub mod Operator
pub mod Value
pub mod Table
pub mod Laws
