pub mod Stream
pub mod CleanSource
pub mod MemSource
pub mod MemSink
pub mod StdStreams
