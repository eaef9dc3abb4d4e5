use Rattle.std.proofs.Common.{◌≡◌, ℕ, List, ap, sym, ◌∙◌}
use Rattle.std.specs.Prelude.{None, Option, slice_index_or}
use Rattle.std.proofs.lemmas.Bool.{false≢true}
use Rattle.cp_skel.specs.declared.vertex.Vertex.TheVariants.{Child}
use Rattle.cp_skel.specs.SkeletonTables.{name_if_left}
use Rattle.cp_skel.proofs.SolvedLists.{name_if_left-none, name_if_left-some}
use Rattle.cp_skel.proofs.ToldLists.{child_names-at}
use Rattle.cp_skel.proofs.rows.VertexNames.child.Goals as goal

pub unreachable-requires : goal.unreachable-requires
unreachable-requires c =
    let told : slice_index_or c.args.self.now.children.now c.args.c None
    ≡ name_if_left c.args.self.now.graph.now Child c.args.c =
    ap (λ (xs : List (Option ℕ)). slice_index_or xs c.args.c None) c.args.self.now.children_told
    ∙ child_names-at c.args.self.now.graph.now c.args.c c.requires.cluster in
    false≢true (sym (name_if_left-none c.args.self.now.graph.now Child c.args.c (sym told ∙ c.in-None.is))
    ∙ c.requires.left)

pub returns : goal.returns
returns c =
    let told : slice_index_or c.args.self.now.children.now c.args.c None
    ≡ name_if_left c.args.self.now.graph.now Child c.args.c =
    ap (λ (xs : List (Option ℕ)). slice_index_or xs c.args.c None) c.args.self.now.children_told
    ∙ child_names-at c.args.self.now.graph.now c.args.c c.requires.cluster in
    (name_if_left-some c.args.self.now.graph.now Child c.args.c c.in-Some.name (sym told ∙ c.in-Some.is)).1
