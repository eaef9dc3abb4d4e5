-- for callers: facts about the definitions
pub mod Crossing
pub mod Ancestors
pub mod FaultLaw
pub mod Tables
-- what the proofs of this crate rest on
mod Counted
mod Nesting
mod Reading
mod Places
mod Walk
mod Firsts
mod NameSteps
mod NodeSteps
mod RootParts
mod ReadParts
mod Gathered
mod Whole
