use Rattle.std.proofs.Common.{◌≡◌, ◌≤◌, ◌++◌, take}
use Rattle.std.specs.List.{zip}
use Rattle.cp_plant.specs.Rewriting.{free_from, planted_pipes}
use Rattle.cp_plant.proofs.rewriting.push_pipes.Given as goal

abbrev pub invariant-loop-k : goal.invariant-loop-k
invariant-loop-k l = (l.pipes ≡ l.initial.pipes ++ planted_pipes l.names 0 (take l.k (zip l.rows l.others)))
    × (l.place ≡ free_from 0 (take l.k (zip l.rows l.others)))
    × (l.place ≤ l.k)
