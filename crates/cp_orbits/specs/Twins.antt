-- The two darts of an edge.
use Rattle.std.specs.Prelude.{ℕ, ◌+◌, ◌-◌, ◌%◌, ◌==◌, cond}

-- the other dart of the same edge: edge e has the darts 2e and 2e + 1
abbrev pub twin : ℕ → ℕ
twin d = cond (d % 2 == 0) (d + 1) (d - 1)
