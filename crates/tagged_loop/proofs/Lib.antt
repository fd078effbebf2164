mod Turns
pub mod LoopPlans
mod LoopShapes
pub mod LoopSteps
mod LoopRuns
mod RingItems
mod Ring
mod TagLoop
mod InOrderTyped
mod TaggedTyped
mod TagRefines
mod LoopDraws
pub mod LoopGraphs
mod TagRing
mod TagsApart
mod RingAnywhere
mod TagOverlap
mod PinOverlap
mod LoopResults
mod LoopDrains
mod LoopMoves
mod LoopFlow
mod TagDrains
mod DrainLaws
