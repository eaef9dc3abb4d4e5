-- The search ends with all vertices done, so it has found whole components.
use Rattle.std.proofs.Common.{◌≡◌, ℕ, ◌<◌, ◌≤◌, List, [], length, subst, sym, arith, ap, ◌∙◌}
use Rattle.cp_lists.specs.CyclicLists.{Has}
use Rattle.cp_local.specs.Searching.{IsSearched}
use Rattle.cp_local.proofs.Searches.{IsSearched-AreComponents, IsSearched-none, IsSearched-size, first_reached, first_two, reached_more, with_key}
use Rattle.cp_local.proofs.searching.components_of.Goals as goal

pub search-init : goal.search-init
search-init g c =
    let i = g.B.Board.instance c.args.board.now in
    let vs = c.insert_full-2.new.self.keys in
    let is : vs ≡ with_key (with_key [] c.args.u) c.args.v =
    c.in_ok-insert_full-2.ensures.keys ∙ ap (λ (xs : List ℕ). with_key xs c.args.v)
    (c.in_ok-insert_full.ensures.keys ∙ ap (λ (xs : List ℕ). with_key xs c.args.u) c.new-verts.ensures.empty) in (
      subst (IsSearched i 0 vs) (sym c.new-edges.ensures.items)
          (IsSearched-none i c.args.u c.args.v vs c.requires.live_u c.requires.live_v is),
      (first_two i c.args.u c.args.v vs is).0,
      (first_two i c.args.u c.args.v vs is).1,
      first_reached i c.args.u c.args.v vs is,
    )

pub search-smaller : goal.search-smaller
search-smaller g c =
    let i = g.B.Board.instance c.args.board.now in
    let size = IsSearched-size i c.search.k c.search.verts.keys c.search.edges.items c.search.invariant.0 in
    let within : c.search.k < length c.search.verts.keys = omega (arith, c.search-test.true, c.len.ensures.len) in
    omega (arith, size, within)

pub search-preserved : goal.search-preserved
search-preserved g c =
    let i = g.B.Board.instance c.args.board.now in
    let inv = c.search.invariant in (
      c.in_ok-visit.ensures.searched,
      c.in_ok-visit.ensures.kept c.args.u inv.1,
      c.in_ok-visit.ensures.kept c.args.v inv.2,
      λ x h.
          let w = c.in_ok-visit.ensures.joined x h in
          reached_more i c.args.u c.args.v w.0 x (inv.3 w.0 w.1) w.2,
    )

pub returns : goal.returns
returns g c =
    let i = g.B.Board.instance c.args.board.now in
    let inv = c.search.invariant in
    let done : length c.search.verts.keys ≤ c.search.k = omega (arith, c.search-test.false, c.len.ensures.len) in
    IsSearched-AreComponents i c.args.u c.args.v c.search.k c.search.verts.keys c.search.edges.items
    c.in_ok-rising_verts.rising_verts.items c.in_ok-rising_edges.rising_edges.items inv.0 done inv.1 inv.2 inv.3
    c.in_ok-rising_verts.ensures.rise c.in_ok-rising_edges.ensures.rise
    (λ x. (
      λ h. subst (Has x) c.as_slice.ensures.keys ((c.in_ok-rising_verts.ensures.same x).0 h),
      λ h. (c.in_ok-rising_verts.ensures.same x).1 (subst (Has x) (sym c.as_slice.ensures.keys) h),
    ))
    (λ x. (
      λ h. subst (Has x) c.as_slice-2.ensures.value ((c.in_ok-rising_edges.ensures.same x).0 h),
      λ h. (c.in_ok-rising_edges.ensures.same x).1 (subst (Has x) (sym c.as_slice-2.ensures.value) h),
    ))
