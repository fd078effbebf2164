mod Made
mod RebuiltMade
mod GraphMade
mod TagLoopTies
mod LaneNames
mod GatherTies
