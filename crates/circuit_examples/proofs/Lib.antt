pub mod Listed
pub mod Deeds
mod LoneWire
mod WireDrains
mod LoneTagger
mod TaggerRefuses
mod LoneInit
mod BufferLeftOut
