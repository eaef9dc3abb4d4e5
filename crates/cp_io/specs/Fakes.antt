-- What a source and a sink in memory are: all that decides their answers.
use Rattle.std.specs.Prelude.{ℕ, List, Bool}

-- a source in memory
pub record SourceState : Type 0 where
  -- the bytes left
  pub left : List ℕ
  -- the most bytes that one read gives
  pub step : ℕ
  -- the numbers of the calls that fail, counted from 1
  pub failing : List ℕ
  -- the number of calls so far
  pub calls : ℕ
  -- the number of calls that failed so far
  pub faults : ℕ

-- a sink in memory
pub record SinkState : Type 0 where
  -- the bytes taken
  pub taken : List ℕ
  -- how many more bytes it can take
  pub room : ℕ
  -- the most bytes that one write takes
  pub step : ℕ
  -- the numbers of the calls that fail, writes and finishes counted together from 1
  pub failing : List ℕ
  -- the number of calls so far
  pub calls : ℕ
  -- the number of calls that failed so far
  pub faults : ℕ
  -- whether all that it took is written out
  pub finished : Bool
