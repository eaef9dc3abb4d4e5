use Rattle.std.proofs.Common.{◌≡◌, ◌∙◌, ℕ, List, Bool, [], ap, arith, false, length, replicate, set, slice_index_or, subst, sym, true, ⊎_elim}
use Rattle.std.proofs.lemmas.Bool.{cases_lt}
use Rattle.std.proofs.lemmas.List.{get_or-replicate, get_or_past, length-replicate}
use Rattle.cp_lists.specs.CyclicLists.{Has}
use Rattle.cp_rotlaw.specs.SideStates.{IsMerging, NoneLeft, vertices_left}
use Rattle.cp_rotlaw.proofs.SideCode.{IsMerging-first, NoneLeft-few, left-few, left-fewer}
use Rattle.cp_rotlaw.proofs.SideMerging.{left_are}
use Rattle.cp_rotlaw.proofs.sides.merged_row.Goals as goal

-- nothing is marked in a table without marks
unmarked : (n y : ℕ) → slice_index_or (replicate n false) y false ≡ false
unmarked n y = ⊎_elim
    (λ l. get_or-replicate n y false false l)
    (λ g. get_or_past (replicate n false) y false (omega (arith, length-replicate n false)))
    (cases_lt y n)

pub loop-k-init : goal.loop-k-init
loop-k-init c =
    let r = c.args.a.now in
    let side = c.args.side.now in
    let items : List Bool = c.in_ok-merged.merged.items in
    let marks : items ≡ replicate r.vertices false = c.in_ok-merged.ensures.items_if_clones_equal (λ y e. e)
    ∙ ap (λ n. replicate n false) c.vertices-vertices.ensures.value in
    let first : IsMerging r side items [] = IsMerging-first r c.vertices-vertices.ensures.rotation side c.requires items
    (ap length marks ∙ length-replicate r.vertices false)
    (λ w. ap (λ (xs : List Bool). slice_index_or xs w false) marks ∙ unmarked r.vertices w) in
    record {
      state = subst (IsMerging r side items) (sym c.new-row.ensures.items) first;
      fewer = omega (arith, left-few r side items);
    }

pub returns-in-None : goal.returns-in-None
returns-in-None c =
    let h = rw c.in-None.is at c.in_ok-next_merge.ensures in
    record {
      merged = c.loop-k.merged.items;
      state = c.loop-k.invariant.state;
      none = subst (NoneLeft c.args.a.now c.args.side.now) c.as_slice.ensures.value h;
    }

pub index_mut-requires : goal.index_mut-requires
index_mut-requires c =
    let h = rw c.in-Some.is at c.in_ok-next_merge.ensures in
    let low = (left_are c.args.a.now c.vertices-vertices.ensures.rotation c.args.side.now c.requires
    c.as_slice.result.now c.in-Some.w h.0).0 in
    omega (arith, low, c.loop-k.invariant.state.size, c.loop-k.merged.ok)

pub loop-k-preserved : goal.loop-k-preserved
loop-k-preserved c =
    let r = c.args.a.now in
    let side = c.args.side.now in
    let w = c.in-Some.w in
    let items : List Bool = c.loop-k.merged.items in
    let h = rw c.in-Some.is at c.in_ok-next_merge.ensures in
    let left : Has w (vertices_left r side items) =
    subst (λ ms. Has w (vertices_left r side ms)) c.as_slice.ensures.value h.0 in
    let fewer = left-fewer r c.vertices-vertices.ensures.rotation side c.requires items w c.loop-k.invariant.state.size
    left in
    record {
      state = subst (λ (ms : List Bool). IsMerging r side (set ms w true) c.in-Some.more.items) c.as_slice.ensures.value
          h.1;
      fewer = omega (arith, fewer, c.loop-k.invariant.fewer);
    }

pub returns : goal.returns
returns c =
    let r = c.args.a.now in
    let side = c.args.side.now in
    record {
      merged = c.loop-k.merged.items;
      state = c.loop-k.invariant.state;
      none = NoneLeft-few r side c.loop-k.merged.items
          (omega (arith, c.loop-k.invariant.fewer, c.loop-k-test.false, c.vertices-vertices.ensures.value));
    }
