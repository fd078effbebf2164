pub mod PlanDrawing
pub mod NumberedBody
pub mod GatherGraphs
pub mod Gather
pub mod GatherSides
pub mod GatherInstance
pub mod BodyRule
