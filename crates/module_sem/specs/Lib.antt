pub mod GraphLinks
pub mod EndShapes
pub mod Beside
pub mod Linking
pub mod Laws
