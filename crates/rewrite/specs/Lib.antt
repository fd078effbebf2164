pub mod Stripped
pub mod Strips
pub mod Behaviour
pub mod TurnById
