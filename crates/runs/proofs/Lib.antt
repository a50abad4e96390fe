pub mod Widths
mod SixRadices
pub mod Growing
pub mod Filling
pub mod PlanTrees
pub mod Naming
pub mod Waiting
pub mod Steering
pub mod Stepping
mod Digits
mod Rows
mod RowWalks
mod Joining
mod Strides
mod CellNumbers
mod Padding
mod BlockCells
mod BlockJoins
mod RegionBases
mod RegionEmptied
mod Tables
mod HeldRegions
mod BlockSteps
mod RootRegion
mod Children
mod ChildSteps
mod HandCells
mod Known
mod FromShape
mod PlannedScans
mod Narrows
mod LaidRegions
mod FromState
mod RegionsStand
mod Holding
mod ChunkPassed
mod ChunkSteps
mod RunMade
mod ReleaseMasks
mod FreshStates
mod MovedStates
mod NextBlocks
mod NextChunk
mod StateAnswers
mod ReleasesOver
mod LivingEvents
pub mod LivingAnswers
pub mod LivingScans
pub mod LivingChunks
mod LivingSteps
mod LivingRuns
mod NextReleases
mod HandedOn
mod HandReady
mod HandsMade
mod Surveying
