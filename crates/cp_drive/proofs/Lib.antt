mod CutEnds
mod Pasts
mod GreatestPipes
