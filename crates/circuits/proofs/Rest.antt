-- Where the nodes that Inits lead to have fired.
pub mod Roots
pub mod Inits
pub mod OneRest
pub mod Found
