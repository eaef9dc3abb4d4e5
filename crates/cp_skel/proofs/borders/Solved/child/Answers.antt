use Rattle.std.proofs.Common.{ℕ, List, length, ap, ◌∙◌, arith}
use Rattle.std.specs.Prelude.{None, Option, slice_index_or}
use Rattle.cp_skel.proofs.ToldLists.{child_names-at, length-child_names}
use Rattle.cp_skel.proofs.borders.Solved.child.Goals as goal

pub child_vertex-requires : goal.child_vertex-requires
child_vertex-requires c =
    omega (arith, ap length c.args.self.now.children_told, length-child_names c.args.self.now.graph.now, c.requires)

pub returns : goal.returns
returns c =
    c.child_vertex.ensures
    ∙ ap (λ (xs : List (Option ℕ)). slice_index_or xs c.args.c None) c.args.self.now.children_told
    ∙ child_names-at c.args.self.now.graph.now c.args.c c.requires
