-- The list of a vertex more stands behind its row.
use Rattle.std.proofs.Common.{◌≡◌, ◌+◌, ◌<◌, [], length, get_or, set, slice_index, sym, ◌∙◌, subst, arith}
use Rattle.std.specs.List.{All}
use Rattle.std.proofs.lemmas.List.{get_or_read}
use Rattle.std.proofs.lemmas.List.Elements.{Contains-get_or}
use Rattle.cp_conn.proofs.NamedGraphs.{rank_at}
use Rattle.cp_flip.specs.GluedLists.{AreAppended}
use Rattle.cp_flip.proofs.AppendedLists.{AreAppended-more}
use Rattle.cp_flip.proofs.gluing.appended.Goals as goal

pub index_mut-requires : goal.index_mut-requires
index_mut-requires c =
    let fit = c.requires.lists in
    let v = slice_index c.args.verts.now c.loop-k.k in
    let lt : c.loop-k.k < length c.args.verts.now = omega (arith, c.loop-k-test.true, fit.list_each) in
    let at = (rank_at c.args.all.now v (fit.live v (Contains-get_or c.args.verts.now c.loop-k.k 0 lt))).0 in
    omega (arith, at, c.rank_among-place.ensures, c.requires.row_each, c.loop-k.invariant.row_each, c.loop-k.new.ok.0)

pub push_named-requires : goal.push_named-requires
push_named-requires c =
    let item = c.items.ensures
    ∙ get_or_read c.args.lists.now c.loop-k.k c.index-lists-k.result c.loop-k-test.true c.index-lists-k.is [] in
    subst (All (λ e. e < length c.args.edges.now)) (sym item) (c.requires.lists.within c.loop-k.k c.loop-k-test.true)

pub loop-k-preserved : goal.loop-k-preserved
loop-k-preserved c =
    let fit = c.requires.lists in
    let v = slice_index c.args.verts.now c.loop-k.k in
    let lt : c.loop-k.k < length c.args.verts.now = omega (arith, c.loop-k-test.true, fit.list_each) in
    let item = c.items.ensures
    ∙ get_or_read c.args.lists.now c.loop-k.k c.index-lists-k.result c.loop-k-test.true c.index-lists-k.is [] in
    let place = c.rank_among-place.ensures in
    subst (λ p. AreAppended c.args.all.now c.args.verts.now c.args.edges.now c.args.lists.now (c.loop-k.k + 1)
    c.args.rows.items (set c.loop-k.new.items p c.push_named.new.row)) (sym place)
    (AreAppended-more c.args.all.now c.args.verts.now c.args.edges.now c.args.lists.now fit c.args.rows.items
    c.loop-k.new.items c.loop-k.k c.index_mut.result.now c.push_named.new.row c.items.result.now c.requires.row_each lt
    c.loop-k.invariant
    (subst (λ p. c.index_mut.result.now ≡ get_or c.loop-k.new.items p c.index_mut.result.now) place c.index_mut.ensures.value)
    c.in_ok-push_named.ensures item)
