-- The vertex is found, so it is one of the board, and then all its edges are found.
use Rattle.std.proofs.Common.{ℕ, List, slice_index, sym, ap, ◌∙◌, subst, length, ◌<◌}
use Rattle.cp_lists.specs.CyclicLists.{Has}
use Rattle.cp_lists.proofs.DistinctLists.{Has-append_left, Has_at}
use Rattle.cp_local.proofs.Searches.{IsSearched-visit, all_live, visit-AreJoinedTo, with_all-begins}
use Rattle.cp_local.proofs.searching.visit.Goals as goal

pub item_at-x-requires : goal.item_at-x-requires
item_at-x-requires g c = subst (λ (xs : List ℕ). c.args.k < length xs) (sym c.as_slice.ensures.keys) c.requires.within

pub edges_at-requires : goal.edges_at-requires
edges_at-requires g c =
    let vs = c.args.verts.now.keys in
    c.requires.searched.verts_live c.item_at-x.result
    (subst (λ x. Has x vs) (sym (c.item_at-x.ensures ∙ ap (λ (xs : List ℕ). slice_index xs c.args.k)
    c.as_slice.ensures.keys))
    (Has_at vs c.args.k c.requires.within))

pub add_edges-requires : goal.add_edges-requires
add_edges-requires g c =
    let i = g.B.Board.instance c.args.board.now in
    all_live i c.item_at-x.result c.as_slice-2.result.now (c.as_slice-2.ensures.value ∙ c.in_ok-at.ensures.names)

pub returns-clause-searched : goal.returns-clause-searched
returns-clause-searched g c =
    let i = g.B.Board.instance c.args.board.now in
    IsSearched-visit i c.in_ok-at.ensures.rules c.args.k c.item_at-x.result c.args.verts.now.keys
    c.args.edges.now.items c.as_slice-2.result.now c.add_edges.new.verts.keys c.add_edges.new.edges.items
    c.requires.searched c.requires.within
    (sym (c.item_at-x.ensures ∙ ap (λ (xs : List ℕ). slice_index xs c.args.k) c.as_slice.ensures.keys))
    (c.as_slice-2.ensures.value ∙ c.in_ok-at.ensures.names) c.in_ok-add_edges.ensures.verts
    c.in_ok-add_edges.ensures.edges

pub returns-clause-kept : goal.returns-clause-kept
returns-clause-kept g c = λ v h.
    let i = g.B.Board.instance c.args.board.now in
    let b = with_all-begins i c.args.verts.now.keys c.as_slice-2.result.now in
    subst (Has v) (sym (c.in_ok-add_edges.ensures.verts ∙ b.1)) (Has-append_left v c.args.verts.now.keys b.0 h)

pub returns-clause-joined : goal.returns-clause-joined
returns-clause-joined g c =
    let i = g.B.Board.instance c.args.board.now in
    let vs = c.args.verts.now.keys in
    visit-AreJoinedTo i c.item_at-x.result vs c.as_slice-2.result.now c.add_edges.new.verts.keys
    (subst (λ y. Has y vs)
    (sym (c.item_at-x.ensures ∙ ap (λ (xs : List ℕ). slice_index xs c.args.k) c.as_slice.ensures.keys))
    (Has_at vs c.args.k c.requires.within))
    (c.as_slice-2.ensures.value ∙ c.in_ok-at.ensures.names) c.in_ok-add_edges.ensures.verts
