-- for callers: facts about the definitions
pub mod LawLemmas
pub mod Outcomes
-- what the proofs of this crate rest on
mod CutLemmas
mod NumberLemmas
mod ReportLemmas
mod RowLemmas
mod TextLemmas
mod WordLemmas
