-- What is cut out for the vertex, and its order tree, tell its orders.
use Rattle.std.proofs.Common.{◌≡◌, ℕ, ◌<◌, List, length, slice_index, sym, ap, ◌∙◌, subst, arith}
use Rattle.std.specs.List.{Contains}
use Rattle.std.specs.List.Sorted.{IsStrictlyIncreasing}
use Rattle.std.proofs.lemmas.Result.{err_from_is_err_and}
use Rattle.cp_board.specs.declared.parts.Kind.TheVariants.{P}
use Rattle.cp_embed.proofs.BoardBlocks.{verts_rise}
use Rattle.cp_tree.specs.declared.fault.TreeFault.TheVariants as fault
use Rattle.cp_tree.specs.NamedTrees.{IsNamedTree}
use Rattle.cp_tree.proofs.CutTrees.{cut-HasSomeOrder, cut-HasTwoEdges, cut-IsEndTree, cut-IsUnembeddable, cut-poles, cut-some, cut-within, kind_live}
use Rattle.cp_tree.proofs.EndOrders.{here}
use Rattle.cp_tree.proofs.trees.tree_at.Goals as goal

pub cut_at-requires-clause-live : goal.cut_at-requires-clause-live
cut_at-requires-clause-live g c =
    let i = g.B.Board.instance c.args.board.now in
    kind_live i.verts c.args.u P c.requires.free

pub rank_among-place-requires-clause-rising : goal.rank_among-place-requires-clause-rising
rank_among-place-requires-clause-rising g c =
    let i = g.B.Board.instance c.args.board.now in
    let cut = c.in_ok-cut.ensures in
    subst IsStrictlyIncreasing (sym (c.items-verts.ensures ∙ cut.verts))
    (verts_rise i c.follows_rules.ensures cut.edge c.in_ok-cut.cut.edges cut.edges)

pub rank_among-place-requires-clause-one : goal.rank_among-place-requires-clause-one
rank_among-place-requires-clause-one g c =
    let i = g.B.Board.instance c.args.board.now in
    let cut = c.in_ok-cut.ensures in
    subst (λ (xs : List ℕ). Contains xs c.args.u) (sym (c.items-verts.ensures ∙ cut.verts))
    (here i c.follows_rules.ensures c.args.u c.requires.free c.requires.uncut cut.edge cut.at c.in_ok-cut.cut.edges
    cut.edges)

pub embed-embedded-requires-clause-within : goal.embed-embedded-requires-clause-within
embed-embedded-requires-clause-within g c =
    let i = g.B.Board.instance c.args.board.now in
    let cut = c.in_ok-cut.ensures in
    cut-within i c.follows_rules.ensures c.args.u c.requires.free c.requires.uncut c.requires.large cut.edge cut.at
    c.in_ok-cut.cut.edges cut.edges c.in_ok-cut.cut.block cut.block c.items-verts.result.now
    (c.items-verts.ensures ∙ cut.verts) c.rank_among-place.result c.rank_among-place.ensures

pub embed-embedded-requires-clause-two_edges : goal.embed-embedded-requires-clause-two_edges
embed-embedded-requires-clause-two_edges g c =
    let i = g.B.Board.instance c.args.board.now in
    let cut = c.in_ok-cut.ensures in
    cut-HasTwoEdges i c.follows_rules.ensures c.args.u c.requires.free c.requires.uncut c.requires.large cut.edge cut.at
    c.in_ok-cut.cut.edges cut.edges c.in_ok-cut.cut.block cut.block c.items-verts.result.now
    (c.items-verts.ensures ∙ cut.verts) c.rank_among-place.result c.rank_among-place.ensures

pub named_tree-requires : goal.named_tree-requires
named_tree-requires g c =
    let i = g.B.Board.instance c.args.board.now in
    let cut = c.in_ok-cut.ensures in
    record {
      poles = cut-poles i c.follows_rules.ensures c.args.u c.requires.free c.requires.uncut
          c.requires.large cut.edge cut.at
          c.in_ok-cut.cut.edges cut.edges c.in_ok-cut.cut.block cut.block c.items-verts.result.now
          (c.items-verts.ensures ∙ cut.verts) c.rank_among-place.result c.rank_among-place.ensures c.in-Ok.embedded
          c.in-Ok.ensures.block c.in-Ok.ensures.vertex c.in-Ok.ensures.tree;
    }

pub cut_at-requires-clause-some : goal.cut_at-requires-clause-some
cut_at-requires-clause-some g c = omega (arith, c.requires.large)

pub returns-in-Ok-clause-tree : goal.returns-in-Ok-clause-tree
returns-in-Ok-clause-tree g c =
    let i = g.B.Board.instance c.args.board.now in
    let cut = c.in_ok-cut.ensures in
    cut-IsEndTree i c.follows_rules.ensures c.args.u c.requires.free c.requires.uncut c.requires.large cut.edge cut.at
    c.in_ok-cut.cut.edges cut.edges c.in_ok-cut.cut.block cut.block c.items-verts.result.now
    (c.items-verts.ensures ∙ cut.verts) c.rank_among-place.result c.rank_among-place.ensures c.in-Ok.embedded
    c.in-Ok.ensures.block c.in-Ok.ensures.vertex c.in-Ok.ensures.tree c.in_ok-tree-in-Ok.tree
    (subst (λ (xs : List ℕ). IsNamedTree c.items-verts.result.now xs c.in-Ok.embedded c.in_ok-tree-in-Ok.tree)
    c.items-edges.ensures c.in_ok-tree-in-Ok.ensures)

pub returns-in-Ok-clause-some : goal.returns-in-Ok-clause-some
returns-in-Ok-clause-some g c =
    let i = g.B.Board.instance c.args.board.now in
    let cut = c.in_ok-cut.ensures in
    cut-HasSomeOrder i c.follows_rules.ensures c.args.u c.requires.free c.requires.uncut
    c.requires.large cut.edge cut.at
    c.in_ok-cut.cut.edges cut.edges c.in_ok-cut.cut.block cut.block c.items-verts.result.now
    (c.items-verts.ensures ∙ cut.verts) c.rank_among-place.result c.rank_among-place.ensures c.in-Ok.embedded
    c.in-Ok.ensures.block c.in-Ok.ensures.vertex c.in-Ok.ensures.tree

pub fault_of-requires : goal.fault_of-requires
fault_of-requires g c =
    let i = g.B.Board.instance c.args.board.now in
    let cut = c.in_ok-cut.ensures in
    subst (λ (xs : List ℕ). 0 < length xs) (sym c.items-edges.ensures)
    (cut-some i c.follows_rules.ensures c.args.u c.requires.free c.requires.uncut c.requires.large cut.edge cut.at
    c.in_ok-cut.cut.edges cut.edges c.in_ok-cut.cut.block cut.block c.items-verts.result.now
    (c.items-verts.ensures ∙ cut.verts) c.rank_among-place.result c.rank_among-place.ensures)

pub returns-clause-refused : goal.returns-clause-refused
returns-clause-refused g c = λ e told.
    let i = g.B.Board.instance c.args.board.now in
    let cut = c.in_ok-cut.ensures in
    let why = c.fault_of.ensures e told in
    cut-IsUnembeddable i c.follows_rules.ensures c.args.u c.requires.free c.requires.uncut
    c.requires.large cut.edge cut.at
    c.in_ok-cut.cut.edges cut.edges c.in_ok-cut.cut.block cut.block c.items-verts.result.now
    (c.items-verts.ensures ∙ cut.verts) c.rank_among-place.result c.rank_among-place.ensures
    (c.in-Err.ensures.refused why.0) e (why.1 ∙ ap (λ (xs : List ℕ). slice_index xs 0) c.items-edges.ensures)

-- want of memory is no edge
memory_no_edge : (e : ℕ) → fault.Memory ≡ fault.NotPlanar e → ⊥
memory_no_edge e same = cc

pub returns-in_err-cut-clause-tree : goal.returns-in_err-cut-clause-tree
returns-in_err-cut-clause-tree g c =
    let p = err_from_is_err_and c.from_residual.result c.from_residual.ensures.1 in rw p.1 tt

pub returns-in_err-cut-clause-some : goal.returns-in_err-cut-clause-some
returns-in_err-cut-clause-some g c =
    let p = err_from_is_err_and c.from_residual.result c.from_residual.ensures.1 in rw p.1 tt

pub returns-in_err-cut-clause-refused : goal.returns-in_err-cut-clause-refused
returns-in_err-cut-clause-refused g c =
    let p = err_from_is_err_and c.from_residual.result c.from_residual.ensures.1 in
    rw p.1 (λ e told. absurd (memory_no_edge e (sym p.2 ∙ told)))

pub returns-in_err-tree-in-Ok-clause-tree : goal.returns-in_err-tree-in-Ok-clause-tree
returns-in_err-tree-in-Ok-clause-tree g c =
    let p = err_from_is_err_and c.from_residual-in_err-tree-in-Ok.result c.from_residual-in_err-tree-in-Ok.ensures.1 in
    rw p.1 tt

pub returns-in_err-tree-in-Ok-clause-some : goal.returns-in_err-tree-in-Ok-clause-some
returns-in_err-tree-in-Ok-clause-some g c =
    let p = err_from_is_err_and c.from_residual-in_err-tree-in-Ok.result c.from_residual-in_err-tree-in-Ok.ensures.1 in
    rw p.1 tt

pub returns-in_err-tree-in-Ok-clause-refused : goal.returns-in_err-tree-in-Ok-clause-refused
returns-in_err-tree-in-Ok-clause-refused g c =
    let p = err_from_is_err_and c.from_residual-in_err-tree-in-Ok.result c.from_residual-in_err-tree-in-Ok.ensures.1 in
    rw p.1 (λ e told. absurd (memory_no_edge e (sym p.2 ∙ told)))
