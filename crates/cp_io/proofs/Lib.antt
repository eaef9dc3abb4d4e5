pub mod AnsweredLemmas
pub mod StreamLemmas
