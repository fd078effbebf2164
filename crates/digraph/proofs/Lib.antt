mod Places
mod EdgeLists
mod Leads
mod Marks
mod DepthWalk
mod GroupRows
mod GroupsTold
