use Rattle.std.proofs.Common.{◌≡◌, ◌≤◌, ◌++◌, take}
use Rattle.cp_plant.specs.Rewriting.{fixed_from, planted_verts}
use Rattle.cp_plant.proofs.rewriting.push_verts.Given as goal

abbrev pub invariant-loop-k : goal.invariant-loop-k
invariant-loop-k l = (l.verts ≡ l.initial.verts ++ planted_verts l.mirrored l.cells 0 (take l.k l.rows))
    × (l.place ≡ fixed_from 0 (take l.k l.rows))
    × (l.place ≤ l.k)
