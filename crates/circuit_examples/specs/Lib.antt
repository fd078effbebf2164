pub mod Listed
pub mod LoneWire
pub mod LoneTagger
pub mod LoneInit
pub mod BufferLeftOut
pub mod Laws
