pub mod LoopFunction
pub mod InOrderLoop
pub mod TaggedLoop
pub mod Ring
pub mod Laws
