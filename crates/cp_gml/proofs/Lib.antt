-- for callers: facts about the definitions
pub mod Outcomes
pub mod Same
pub mod Spelling
pub mod Unique
-- what the proofs of this crate rest on
mod Alike
mod Fronts
mod Laid
mod Reading
mod Viable
