use Rattle.std.proofs.Common.{◌≡◌, map}
use Rattle.cp_board.specs.declared.parts.Kind.TheVariants.{P}
use Rattle.cp_skel.specs.Skeletons.{below}
use Rattle.cp_skel.proofs.rows.plain_vertices.Given as goal

abbrev pub invariant-loop-name : goal.invariant-loop-name
invariant-loop-name l = l.verts ≡ map (λ v. record { name = v; kind = P }) (below l.name)
