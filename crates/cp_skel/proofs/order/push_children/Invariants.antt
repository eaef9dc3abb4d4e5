use Rattle.std.proofs.Common.{◌≡◌, ◌++◌, map, take}
use Rattle.cp_skel.specs.declared.vertex.Vertex.TheVariants.{Child}
use Rattle.cp_skel.proofs.order.push_children.Given as goal

abbrev pub invariant-loop-c : goal.invariant-loop-c
invariant-loop-c l = l.vertices.items ≡ l.initial.vertices.items ++ map Child (take l.c-index l.children)
