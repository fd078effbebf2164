mod Dropping
mod Meeting
mod Turning
mod TurnsMade
mod StrippedByTurns
mod Refining
mod KeepingDrains
mod TurnsById
