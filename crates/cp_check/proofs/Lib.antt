-- for callers: facts about the definitions
pub mod Outcomes
pub mod Verdicts
-- what the proofs of this crate rest on
mod Counts
