mod BlockLemmas
mod OwnEnds
