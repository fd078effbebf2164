pub mod LaneLoop
pub mod LaneEnds
pub mod LoopCut
pub mod TurnFunction
pub mod Laws
