pub mod Each
pub mod Filters
pub mod NameFacts
pub mod KeyOrder
pub mod LockParts
pub mod LockFacts
pub mod NotRefused
pub mod SoundTables
pub mod SoundPending
pub mod SoundSteps
pub mod AllowedOps
pub mod ToldKept
pub mod RunLaws
pub mod SerialRuns
mod Entries
mod Tables
mod Taken
mod OwnLocks
mod Fitting
mod Shown
mod Begun
mod Answered
mod Asked
mod Keyed
mod Lent
mod Views
mod Changed
mod Found
