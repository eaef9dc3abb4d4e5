use Rattle.std.proofs.Common.{◌≡◌, ◌∷◌, [], take}
use Rattle.std.specs.List.{flat_map}
use Rattle.cp_sync.proofs.rotation.vertices_of_darts.Given as goal

abbrev pub invariant-loop-a : goal.invariant-loop-a
invariant-loop-a l = l.at.items ≡ flat_map (λ x. x.0 ∷ x.1 ∷ []) (take l.a-index l.ends)
