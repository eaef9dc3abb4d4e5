-- The vertex at the place, with its edges to vertices before and its others.
use Rattle.std.proofs.Common.{◌≡◌, ℕ, ◌<◌, ◌↔◌, Bool, true, false, not, Option, Some, None, List, length, slice_index, get_or, sym, refl, ap, ◌∙◌, subst, arith}
use Rattle.std.specs.List.{filter}
use Rattle.std.proofs.lemmas.List.{get_or_read}
use Rattle.std.proofs.lemmas.Result.{err_from_is_err_and}
use Rattle.cp_lists.specs.CyclicLists.{Has}
use Rattle.cp_lists.proofs.DistinctLists.{Has_at}
use Rattle.cp_lists.proofs.FilteredLists.{Has-filter, filter-Has}
use Rattle.cp_pq.specs.declared.part.Part.{Part}
use Rattle.cp_pq.specs.Promises.{IsLeafSet, IsNeverConsecutive}
use Rattle.cp_pq.specs.Trees.{PQTree}
use Rattle.cp_embed.specs.Arrangements.{IsArrangementOf}
use Rattle.cp_embed.specs.ListedBlocks.{edges_at, list_given}
use Rattle.cp_embed.specs.TreeSteps.{IsFreeStep, IsListedStep, IsTreeStep, IsRefusedStep, IsFreshSet}
use Rattle.cp_embed.specs.VertexOrders.{AreLaterEnds, enters, edges_in, edges_out}
use Rattle.cp_embed.proofs.BuiltTrees.{place-vertex, place-leaves, place-fresh}
use Rattle.cp_embed.proofs.EdgeDarts.{edges_at-Has}
use Rattle.cp_embed.proofs.StageTrees.{given_arranges}
use Rattle.cp_embed.proofs.taking.take.Goals as goal
use Rattle.cp_embed.proofs.taking.take.Goals.{in-None+in_ok-take_free-in-None, in-Some+in_ok-new-in-Some}

-- what is read at a place stands there
vertex_is : (xs : List ℕ) (i v : ℕ) → i < length xs → v ≡ get_or xs i v → v ≡ slice_index xs i
vertex_is xs i v lt is = get_or_read xs i v lt is 0

-- the edges to vertices before, in the code's own terms
ins_eq : (ends : List (ℕ × ℕ)) (order later : List ℕ) (place v : ℕ) (edges lat ins : List ℕ)
    → v ≡ slice_index order place → edges ≡ edges_at ends v → lat ≡ later → ins ≡ filter (enters lat v) edges
    → ins ≡ edges_in ends later (slice_index order place)
ins_eq ends order later place v edges lat ins v_is edges_is lat_is ins_is =
    ins_is ∙ ap (filter (enters lat v)) edges_is ∙ ap (λ l. filter (enters l v) (edges_at ends v)) lat_is
    ∙ ap (edges_in ends later) v_is

-- and the others
outs_eq : (ends : List (ℕ × ℕ)) (order later : List ℕ) (place v : ℕ) (edges lat outs : List ℕ)
    → v ≡ slice_index order place → edges ≡ edges_at ends v → lat ≡ later
    → outs ≡ filter (λ k. not (enters lat v k)) edges → outs ≡ edges_out ends later (slice_index order place)
outs_eq ends order later place v edges lat outs v_is edges_is lat_is outs_is =
    outs_is ∙ ap (filter (λ k. not (enters lat v k))) edges_is
    ∙ ap (λ l. filter (λ k. not (enters l v k)) (edges_at ends v)) lat_is ∙ ap (edges_out ends later) v_is

-- the edges of a vertex have later ends
edges_within : (ends : List (ℕ × ℕ)) (order later : List ℕ) (v : ℕ) (edges lat : List ℕ) → AreLaterEnds ends order later
    → edges ≡ edges_at ends v → lat ≡ later → (i : ℕ) → i < length edges → slice_index edges i < length lat
edges_within ends order later v edges lat are edges_is lat_is i lt =
    let h = (edges_at-Has ends v (slice_index edges i)).0 (subst (Has (slice_index edges i)) edges_is (Has_at edges i lt)) in
    omega (arith, h.0, are.each, ap length lat_is)

-- so have those of a list of them
list_within : (ends : List (ℕ × ℕ)) (order later : List ℕ) (v : ℕ) (list lat : List ℕ) → AreLaterEnds ends order later
    → IsArrangementOf list (edges_at ends v) → lat ≡ later → (i : ℕ) → i < length list → slice_index list i < length lat
list_within ends order later v list lat are a lat_is i lt =
    let h = (edges_at-Has ends v (slice_index list i)).0 ((a.items (slice_index list i)).0 (Has_at list i lt)) in
    omega (arith, h.0, are.each, ap length lat_is)

-- the edges to vertices before are those of the list that enter
ins_items : (ends : List (ℕ × ℕ)) (later : List ℕ) (x v : ℕ) (list lat ins : List ℕ) → v ≡ x
    → IsArrangementOf list (edges_at ends x) → lat ≡ later → ins ≡ edges_in ends later x → (k : ℕ)
    → Has k ins ↔ (Has k list × (enters lat v k ≡ true))
ins_items ends later x v list lat ins v_is a lat_is ins_is k =
    let test : enters lat v k ≡ enters later x k = ap (λ l. enters l v k) lat_is ∙ ap (λ u. enters later u k) v_is in (
      λ h. let w = filter-Has (enters later x) k (edges_at ends x) (subst (Has k) ins_is h) in
          ((a.items k).1 w.0, test ∙ w.1),
      λ h. subst (Has k) (sym ins_is)
          (Has-filter (enters later x) k (edges_at ends x) ((a.items k).0 h.0) (sym test ∙ h.1)),
    )

-- and the others those that do not
outs_items : (ends : List (ℕ × ℕ)) (later : List ℕ) (x v : ℕ) (list lat outs : List ℕ) → v ≡ x
    → IsArrangementOf list (edges_at ends x) → lat ≡ later → outs ≡ edges_out ends later x → (k : ℕ)
    → Has k outs ↔ (Has k list × (enters lat v k ≡ false))
outs_items ends later x v list lat outs v_is a lat_is outs_is k =
    let test : enters lat v k ≡ enters later x k = ap (λ l. enters l v k) lat_is ∙ ap (λ u. enters later u k) v_is in (
      λ h. let w = filter-Has (λ j. not (enters later x j)) k (edges_at ends x) (subst (Has k) outs_is h) in
          ((a.items k).1 w.0, test ∙ not_true (enters later x k) w.1),
      λ h. subst (Has k) (sym outs_is) (Has-filter (λ j. not (enters later x j)) k (edges_at ends x) ((a.items k).0 h.0)
          (ap not (sym test ∙ h.1))),
    )
  where
    not_true : (b : Bool) → not b ≡ true → b ≡ false
    not_true true e = absurd cc
    not_true false e = refl

-- a refusal without a given list
none_refused : (given : Option (List ℕ)) (set ins outs : List ℕ) (old : PQTree) → given ≡ None → set ≡ ins
    → IsNeverConsecutive set old → IsRefusedStep given ins outs old
none_refused given set ins outs old is same never =
    subst (λ l. IsRefusedStep l ins outs old) (sym is) (subst (λ us. IsNeverConsecutive us old) same never)

-- and one with a given list
some_refused : (given : Option (List ℕ)) (list us vs ins outs : List ℕ) (old : PQTree) → given ≡ Some list → us ≡ ins
    → vs ≡ outs → IsRefusedStep (Some list) us vs old → IsRefusedStep given ins outs old
some_refused given list us vs ins outs old is same others refused =
    subst (λ l. IsRefusedStep l ins outs old) (sym is) (subst (λ ws. IsRefusedStep (Some list) ws outs old) same
    (subst (λ ws. IsRefusedStep (Some list) us ws old) others refused))

-- a step without a given list
none_step : (given : Option (List ℕ)) (v x : ℕ) (us vs ins outs : List ℕ) (old new : PQTree) (part : Part)
    → given ≡ None → v ≡ x → us ≡ ins → vs ≡ outs → IsFreeStep v us vs old new part
    → IsTreeStep given x ins outs old new part
none_step given v x us vs ins outs old new part is v_is same others step =
    subst (λ l. IsTreeStep l x ins outs old new part) (sym is) (subst (λ u. IsFreeStep u ins outs old new part) v_is
    (subst (λ ws. IsFreeStep v ws outs old new part) same
    (subst (λ ws. IsFreeStep v us ws old new part) others step)))

-- and one with a given list
some_step : (given : Option (List ℕ)) (list : List ℕ) (v x : ℕ) (us vs ins outs : List ℕ) (old new : PQTree)
    (part : Part) → given ≡ Some list → v ≡ x → us ≡ ins → vs ≡ outs → IsListedStep v list us vs old new part
    → IsTreeStep given x ins outs old new part
some_step given list v x us vs ins outs old new part is v_is same others step =
    subst (λ l. IsTreeStep l x ins outs old new part) (sym is) (subst (λ u. IsListedStep u list ins outs old new part) v_is
    (subst (λ ws. IsListedStep v list ws outs old new part) same
    (subst (λ ws. IsListedStep v list us ws old new part) others step)))

pub entering-requires : goal.entering-requires
entering-requires g c =
    edges_within c.args.block.now.graph.ends c.args.order.now.vertices.items c.args.order.now.later.items c.index-vertex.result.now
    c.edges_at-edges.result.now c.as_slice.result.now c.requires.order.later_ends c.edges_at-edges.ensures.value
    c.as_slice.ensures.value

pub leaving-requires : goal.leaving-requires
leaving-requires g c =
    edges_within c.args.block.now.graph.ends c.args.order.now.vertices.items c.args.order.now.later.items c.index-vertex.result.now
    c.edges_at-edges.result.now c.as_slice-2.result.now c.requires.order.later_ends c.edges_at-edges.ensures.value
    c.as_slice-2.ensures.value

pub take_free-requires-clause-leaf_set : goal.take_free-requires-clause-leaf_set
take_free-requires-clause-leaf_set g c =
    let v_is : c.index-vertex.result.now ≡ slice_index c.args.order.now.vertices.items c.args.place =
    vertex_is c.args.order.now.vertices.items c.args.place c.index-vertex.result.now (omega (arith, c.requires.some_behind)) c.index-vertex.ensures in
    let ins_is : c.in_ok-ins.ins.items ≡ edges_in c.args.block.now.graph.ends c.args.order.now.later.items (slice_index c.args.order.now.vertices.items c.args.place) =
    ins_eq c.args.block.now.graph.ends c.args.order.now.vertices.items c.args.order.now.later.items c.args.place c.index-vertex.result.now
    c.edges_at-edges.result.now c.as_slice.result.now c.in_ok-ins.ins.items v_is c.edges_at-edges.ensures.value
    c.as_slice.ensures.value c.in_ok-ins.ensures in
    subst (λ us. IsLeafSet us (g.T.OrderTree.tree c.args.old)) (sym (c.as_slice-in-None.ensures.value ∙ ins_is))
    (place-leaves c.args.block.now c.edges_at-edges.ensures.block c.args.order.now.vertices.items
    c.args.order.now.later.items c.args.order.now.root c.requires.order (g.T.OrderTree.tree c.args.old) c.args.place c.requires.some_before
    c.requires.some_behind c.requires.stage)

pub take_free-requires-clause-fresh : goal.take_free-requires-clause-fresh
take_free-requires-clause-fresh g c =
    let v_is : c.index-vertex.result.now ≡ slice_index c.args.order.now.vertices.items c.args.place =
    vertex_is c.args.order.now.vertices.items c.args.place c.index-vertex.result.now (omega (arith, c.requires.some_behind)) c.index-vertex.ensures in
    let outs_is : c.in_ok-outs.outs.items ≡ edges_out c.args.block.now.graph.ends c.args.order.now.later.items (slice_index c.args.order.now.vertices.items c.args.place) =
    outs_eq c.args.block.now.graph.ends c.args.order.now.vertices.items c.args.order.now.later.items c.args.place c.index-vertex.result.now
    c.edges_at-edges.result.now c.as_slice-2.result.now c.in_ok-outs.outs.items v_is c.edges_at-edges.ensures.value
    c.as_slice-2.ensures.value c.in_ok-outs.ensures in
    subst (λ us. IsFreshSet us (g.T.OrderTree.tree c.args.old)) (sym (c.as_slice-in-None-2.ensures.value ∙ outs_is))
    (place-fresh c.args.block.now c.edges_at-edges.ensures.block c.args.order.now.vertices.items
    c.args.order.now.later.items c.args.order.now.root c.requires.order (g.T.OrderTree.tree c.args.old) c.args.place c.requires.some_before
    c.requires.some_behind c.requires.stage)

pub returns-in_err-take_free-in-None-clause-refused : goal.returns-in_err-take_free-in-None-clause-refused
returns-in_err-take_free-in-None-clause-refused g c =
    let v_is : c.index-vertex.result.now ≡ slice_index c.args.order.now.vertices.items c.args.place =
    vertex_is c.args.order.now.vertices.items c.args.place c.index-vertex.result.now (omega (arith, c.requires.some_behind)) c.index-vertex.ensures in
    let ins_is : c.in_ok-ins.ins.items ≡ edges_in c.args.block.now.graph.ends c.args.order.now.later.items (slice_index c.args.order.now.vertices.items c.args.place) =
    ins_eq c.args.block.now.graph.ends c.args.order.now.vertices.items c.args.order.now.later.items c.args.place c.index-vertex.result.now
    c.edges_at-edges.result.now c.as_slice.result.now c.in_ok-ins.ins.items v_is c.edges_at-edges.ensures.value
    c.as_slice.ensures.value c.in_ok-ins.ensures in
    let p = err_from_is_err_and c.from_residual-in_err-take_free-in-None.result
    c.from_residual-in_err-take_free-in-None.ensures.1 in
    rw (p.1, p.2) (λ fault. none_refused (list_given c.args.block.now.lists (slice_index c.args.order.now.vertices.items c.args.place)) c.as_slice-in-None.result.now
    (edges_in c.args.block.now.graph.ends c.args.order.now.later.items (slice_index c.args.order.now.vertices.items c.args.place))
    (edges_out c.args.block.now.graph.ends c.args.order.now.later.items (slice_index c.args.order.now.vertices.items c.args.place)) (g.T.OrderTree.tree c.args.old)
    (subst (λ v. list_given c.args.block.now.lists v ≡ None) v_is c.in-None.ensures) (c.as_slice-in-None.ensures.value ∙ ins_is)
    (c.in_err-take_free-in-None.ensures.refused fault))

pub take_listed-requires-clause-leaf_set : goal.take_listed-requires-clause-leaf_set
take_listed-requires-clause-leaf_set g c =
    let v_is : c.index-vertex.result.now ≡ slice_index c.args.order.now.vertices.items c.args.place =
    vertex_is c.args.order.now.vertices.items c.args.place c.index-vertex.result.now (omega (arith, c.requires.some_behind)) c.index-vertex.ensures in
    let ins_is : c.in_ok-ins.ins.items ≡ edges_in c.args.block.now.graph.ends c.args.order.now.later.items (slice_index c.args.order.now.vertices.items c.args.place) =
    ins_eq c.args.block.now.graph.ends c.args.order.now.vertices.items c.args.order.now.later.items c.args.place c.index-vertex.result.now
    c.edges_at-edges.result.now c.as_slice.result.now c.in_ok-ins.ins.items v_is c.edges_at-edges.ensures.value
    c.as_slice.ensures.value c.in_ok-ins.ensures in
    subst (λ us. IsLeafSet us (g.T.OrderTree.tree c.args.old)) (sym (c.as_slice-in-Some-2.ensures.value ∙ ins_is))
    (place-leaves c.args.block.now c.edges_at-edges.ensures.block c.args.order.now.vertices.items
    c.args.order.now.later.items c.args.order.now.root c.requires.order (g.T.OrderTree.tree c.args.old) c.args.place c.requires.some_before
    c.requires.some_behind c.requires.stage)

pub take_listed-requires-clause-fresh : goal.take_listed-requires-clause-fresh
take_listed-requires-clause-fresh g c =
    let v_is : c.index-vertex.result.now ≡ slice_index c.args.order.now.vertices.items c.args.place =
    vertex_is c.args.order.now.vertices.items c.args.place c.index-vertex.result.now (omega (arith, c.requires.some_behind)) c.index-vertex.ensures in
    let outs_is : c.in_ok-outs.outs.items ≡ edges_out c.args.block.now.graph.ends c.args.order.now.later.items (slice_index c.args.order.now.vertices.items c.args.place) =
    outs_eq c.args.block.now.graph.ends c.args.order.now.vertices.items c.args.order.now.later.items c.args.place c.index-vertex.result.now
    c.edges_at-edges.result.now c.as_slice-2.result.now c.in_ok-outs.outs.items v_is c.edges_at-edges.ensures.value
    c.as_slice-2.ensures.value c.in_ok-outs.ensures in
    subst (λ us. IsFreshSet us (g.T.OrderTree.tree c.args.old)) (sym (c.as_slice-in-Some-3.ensures.value ∙ outs_is))
    (place-fresh c.args.block.now c.edges_at-edges.ensures.block c.args.order.now.vertices.items
    c.args.order.now.later.items c.args.order.now.root c.requires.order (g.T.OrderTree.tree c.args.old) c.args.place c.requires.some_before
    c.requires.some_behind c.requires.stage)

pub take_listed-requires-clause-once : goal.take_listed-requires-clause-once
take_listed-requires-clause-once g c =
    let v_is : c.index-vertex.result.now ≡ slice_index c.args.order.now.vertices.items c.args.place =
    vertex_is c.args.order.now.vertices.items c.args.place c.index-vertex.result.now (omega (arith, c.requires.some_behind)) c.index-vertex.ensures in
    let arranges : IsArrangementOf c.items.result.now (edges_at c.args.block.now.graph.ends (slice_index c.args.order.now.vertices.items c.args.place)) =
    subst (λ us. IsArrangementOf us (edges_at c.args.block.now.graph.ends (slice_index c.args.order.now.vertices.items c.args.place))) (sym c.items.ensures)
    (given_arranges c.args.block.now c.edges_at-edges.ensures.block c.args.order.now.vertices.items c.args.order.now.later.items
    c.args.order.now.root c.requires.order (slice_index c.args.order.now.vertices.items c.args.place)
    (place-vertex c.args.block.now c.edges_at-edges.ensures.block c.args.order.now.vertices.items
    c.args.order.now.later.items c.args.order.now.root c.requires.order (g.T.OrderTree.tree c.args.old) c.args.place c.requires.some_before
    c.requires.some_behind c.requires.stage)
    c.in-Some.list.now (subst (λ v. list_given c.args.block.now.lists v ≡ Some c.in-Some.list.now) v_is c.in-Some.ensures))
    in
    arranges.distinct

pub take_listed-requires-clause-within : goal.take_listed-requires-clause-within
take_listed-requires-clause-within g c =
    let v_is : c.index-vertex.result.now ≡ slice_index c.args.order.now.vertices.items c.args.place =
    vertex_is c.args.order.now.vertices.items c.args.place c.index-vertex.result.now (omega (arith, c.requires.some_behind)) c.index-vertex.ensures in
    let arranges : IsArrangementOf c.items.result.now (edges_at c.args.block.now.graph.ends (slice_index c.args.order.now.vertices.items c.args.place)) =
    subst (λ us. IsArrangementOf us (edges_at c.args.block.now.graph.ends (slice_index c.args.order.now.vertices.items c.args.place))) (sym c.items.ensures)
    (given_arranges c.args.block.now c.edges_at-edges.ensures.block c.args.order.now.vertices.items c.args.order.now.later.items
    c.args.order.now.root c.requires.order (slice_index c.args.order.now.vertices.items c.args.place)
    (place-vertex c.args.block.now c.edges_at-edges.ensures.block c.args.order.now.vertices.items
    c.args.order.now.later.items c.args.order.now.root c.requires.order (g.T.OrderTree.tree c.args.old) c.args.place c.requires.some_before
    c.requires.some_behind c.requires.stage)
    c.in-Some.list.now (subst (λ v. list_given c.args.block.now.lists v ≡ Some c.in-Some.list.now) v_is c.in-Some.ensures))
    in
    list_within c.args.block.now.graph.ends c.args.order.now.vertices.items c.args.order.now.later.items (slice_index c.args.order.now.vertices.items c.args.place)
    c.items.result.now c.as_slice-in-Some.result.now c.requires.order.later_ends arranges c.as_slice-in-Some.ensures.value

pub take_listed-requires-clause-ins_are : goal.take_listed-requires-clause-ins_are
take_listed-requires-clause-ins_are g c =
    let v_is : c.index-vertex.result.now ≡ slice_index c.args.order.now.vertices.items c.args.place =
    vertex_is c.args.order.now.vertices.items c.args.place c.index-vertex.result.now (omega (arith, c.requires.some_behind)) c.index-vertex.ensures in
    let ins_is : c.in_ok-ins.ins.items ≡ edges_in c.args.block.now.graph.ends c.args.order.now.later.items (slice_index c.args.order.now.vertices.items c.args.place) =
    ins_eq c.args.block.now.graph.ends c.args.order.now.vertices.items c.args.order.now.later.items c.args.place c.index-vertex.result.now
    c.edges_at-edges.result.now c.as_slice.result.now c.in_ok-ins.ins.items v_is c.edges_at-edges.ensures.value
    c.as_slice.ensures.value c.in_ok-ins.ensures in
    let arranges : IsArrangementOf c.items.result.now (edges_at c.args.block.now.graph.ends (slice_index c.args.order.now.vertices.items c.args.place)) =
    subst (λ us. IsArrangementOf us (edges_at c.args.block.now.graph.ends (slice_index c.args.order.now.vertices.items c.args.place))) (sym c.items.ensures)
    (given_arranges c.args.block.now c.edges_at-edges.ensures.block c.args.order.now.vertices.items c.args.order.now.later.items
    c.args.order.now.root c.requires.order (slice_index c.args.order.now.vertices.items c.args.place)
    (place-vertex c.args.block.now c.edges_at-edges.ensures.block c.args.order.now.vertices.items
    c.args.order.now.later.items c.args.order.now.root c.requires.order (g.T.OrderTree.tree c.args.old) c.args.place c.requires.some_before
    c.requires.some_behind c.requires.stage)
    c.in-Some.list.now (subst (λ v. list_given c.args.block.now.lists v ≡ Some c.in-Some.list.now) v_is c.in-Some.ensures))
    in
    ins_items c.args.block.now.graph.ends c.args.order.now.later.items (slice_index c.args.order.now.vertices.items c.args.place) c.index-vertex.result.now
    c.items.result.now c.as_slice-in-Some.result.now c.as_slice-in-Some-2.result.now v_is arranges
    c.as_slice-in-Some.ensures.value (c.as_slice-in-Some-2.ensures.value ∙ ins_is)

pub take_listed-requires-clause-outs_are : goal.take_listed-requires-clause-outs_are
take_listed-requires-clause-outs_are g c =
    let v_is : c.index-vertex.result.now ≡ slice_index c.args.order.now.vertices.items c.args.place =
    vertex_is c.args.order.now.vertices.items c.args.place c.index-vertex.result.now (omega (arith, c.requires.some_behind)) c.index-vertex.ensures in
    let outs_is : c.in_ok-outs.outs.items ≡ edges_out c.args.block.now.graph.ends c.args.order.now.later.items (slice_index c.args.order.now.vertices.items c.args.place) =
    outs_eq c.args.block.now.graph.ends c.args.order.now.vertices.items c.args.order.now.later.items c.args.place c.index-vertex.result.now
    c.edges_at-edges.result.now c.as_slice-2.result.now c.in_ok-outs.outs.items v_is c.edges_at-edges.ensures.value
    c.as_slice-2.ensures.value c.in_ok-outs.ensures in
    let arranges : IsArrangementOf c.items.result.now (edges_at c.args.block.now.graph.ends (slice_index c.args.order.now.vertices.items c.args.place)) =
    subst (λ us. IsArrangementOf us (edges_at c.args.block.now.graph.ends (slice_index c.args.order.now.vertices.items c.args.place))) (sym c.items.ensures)
    (given_arranges c.args.block.now c.edges_at-edges.ensures.block c.args.order.now.vertices.items c.args.order.now.later.items
    c.args.order.now.root c.requires.order (slice_index c.args.order.now.vertices.items c.args.place)
    (place-vertex c.args.block.now c.edges_at-edges.ensures.block c.args.order.now.vertices.items
    c.args.order.now.later.items c.args.order.now.root c.requires.order (g.T.OrderTree.tree c.args.old) c.args.place c.requires.some_before
    c.requires.some_behind c.requires.stage)
    c.in-Some.list.now (subst (λ v. list_given c.args.block.now.lists v ≡ Some c.in-Some.list.now) v_is c.in-Some.ensures))
    in
    outs_items c.args.block.now.graph.ends c.args.order.now.later.items (slice_index c.args.order.now.vertices.items c.args.place) c.index-vertex.result.now
    c.items.result.now c.as_slice-in-Some.result.now c.as_slice-in-Some-3.result.now v_is arranges
    c.as_slice-in-Some.ensures.value (c.as_slice-in-Some-3.ensures.value ∙ outs_is)

pub returns-in_err-new-in-Some-clause-refused : goal.returns-in_err-new-in-Some-clause-refused
returns-in_err-new-in-Some-clause-refused g c =
    let v_is : c.index-vertex.result.now ≡ slice_index c.args.order.now.vertices.items c.args.place =
    vertex_is c.args.order.now.vertices.items c.args.place c.index-vertex.result.now (omega (arith, c.requires.some_behind)) c.index-vertex.ensures in
    let ins_is : c.in_ok-ins.ins.items ≡ edges_in c.args.block.now.graph.ends c.args.order.now.later.items (slice_index c.args.order.now.vertices.items c.args.place) =
    ins_eq c.args.block.now.graph.ends c.args.order.now.vertices.items c.args.order.now.later.items c.args.place c.index-vertex.result.now
    c.edges_at-edges.result.now c.as_slice.result.now c.in_ok-ins.ins.items v_is c.edges_at-edges.ensures.value
    c.as_slice.ensures.value c.in_ok-ins.ensures in
    let outs_is : c.in_ok-outs.outs.items ≡ edges_out c.args.block.now.graph.ends c.args.order.now.later.items (slice_index c.args.order.now.vertices.items c.args.place) =
    outs_eq c.args.block.now.graph.ends c.args.order.now.vertices.items c.args.order.now.later.items c.args.place c.index-vertex.result.now
    c.edges_at-edges.result.now c.as_slice-2.result.now c.in_ok-outs.outs.items v_is c.edges_at-edges.ensures.value
    c.as_slice-2.ensures.value c.in_ok-outs.ensures in
    let p = err_from_is_err_and c.from_residual-in_err-new-in-Some.result c.from_residual-in_err-new-in-Some.ensures.1 in
    rw (p.1, p.2) (λ fault. some_refused (list_given c.args.block.now.lists (slice_index c.args.order.now.vertices.items c.args.place)) c.items.result.now
    c.as_slice-in-Some-2.result.now c.as_slice-in-Some-3.result.now
    (edges_in c.args.block.now.graph.ends c.args.order.now.later.items (slice_index c.args.order.now.vertices.items c.args.place))
    (edges_out c.args.block.now.graph.ends c.args.order.now.later.items (slice_index c.args.order.now.vertices.items c.args.place)) (g.T.OrderTree.tree c.args.old)
    (subst (λ v. list_given c.args.block.now.lists v ≡ Some c.in-Some.list.now) v_is c.in-Some.ensures ∙ ap Some (sym c.items.ensures))
    (c.as_slice-in-Some-2.ensures.value ∙ ins_is) (c.as_slice-in-Some-3.ensures.value ∙ outs_is)
    (c.in_err-new-in-Some.ensures.refused fault))

pub returns-clause-step : goal.returns-clause-step
returns-clause-step g c =
    let v_is : c.index-vertex.result.now ≡ slice_index c.args.order.now.vertices.items c.args.place =
    vertex_is c.args.order.now.vertices.items c.args.place c.index-vertex.result.now (omega (arith, c.requires.some_behind)) c.index-vertex.ensures in
    let ins_is : c.in_ok-ins.ins.items ≡ edges_in c.args.block.now.graph.ends c.args.order.now.later.items (slice_index c.args.order.now.vertices.items c.args.place) =
    ins_eq c.args.block.now.graph.ends c.args.order.now.vertices.items c.args.order.now.later.items c.args.place c.index-vertex.result.now
    c.edges_at-edges.result.now c.as_slice.result.now c.in_ok-ins.ins.items v_is c.edges_at-edges.ensures.value
    c.as_slice.ensures.value c.in_ok-ins.ensures in
    let outs_is : c.in_ok-outs.outs.items ≡ edges_out c.args.block.now.graph.ends c.args.order.now.later.items (slice_index c.args.order.now.vertices.items c.args.place) =
    outs_eq c.args.block.now.graph.ends c.args.order.now.vertices.items c.args.order.now.later.items c.args.place c.index-vertex.result.now
    c.edges_at-edges.result.now c.as_slice-2.result.now c.in_ok-outs.outs.items v_is c.edges_at-edges.ensures.value
    c.as_slice-2.ensures.value c.in_ok-outs.ensures in
    elim c.match-list_of.branch [
      | in-None+in_ok-take_free-in-None w ↦
          subst (λ pair. IsTreeStep (list_given c.args.block.now.lists (slice_index c.args.order.now.vertices.items c.args.place)) (slice_index c.args.order.now.vertices.items c.args.place)
          (edges_in c.args.block.now.graph.ends c.args.order.now.later.items (slice_index c.args.order.now.vertices.items c.args.place))
          (edges_out c.args.block.now.graph.ends c.args.order.now.later.items (slice_index c.args.order.now.vertices.items c.args.place)) (g.T.OrderTree.tree c.args.old)
          (g.T.OrderTree.tree pair.0) pair.1) (sym w.new-is)
          (none_step (list_given c.args.block.now.lists (slice_index c.args.order.now.vertices.items c.args.place)) c.index-vertex.result.now
          (slice_index c.args.order.now.vertices.items c.args.place)
          w.as_slice-in-None.result.now w.as_slice-in-None-2.result.now
          (edges_in c.args.block.now.graph.ends c.args.order.now.later.items (slice_index c.args.order.now.vertices.items c.args.place))
          (edges_out c.args.block.now.graph.ends c.args.order.now.later.items (slice_index c.args.order.now.vertices.items c.args.place)) (g.T.OrderTree.tree c.args.old)
          (g.T.OrderTree.tree w.in_ok-take_free-in-None.new) w.in_ok-take_free-in-None.part
          (subst (λ v. list_given c.args.block.now.lists v ≡ None) v_is w.in-None.ensures)
          v_is (w.as_slice-in-None.ensures.value ∙ ins_is) (w.as_slice-in-None-2.ensures.value ∙ outs_is)
          w.in_ok-take_free-in-None.ensures.step)
      | in-Some+in_ok-new-in-Some w ↦
          subst (λ pair. IsTreeStep (list_given c.args.block.now.lists (slice_index c.args.order.now.vertices.items c.args.place)) (slice_index c.args.order.now.vertices.items c.args.place)
          (edges_in c.args.block.now.graph.ends c.args.order.now.later.items (slice_index c.args.order.now.vertices.items c.args.place))
          (edges_out c.args.block.now.graph.ends c.args.order.now.later.items (slice_index c.args.order.now.vertices.items c.args.place)) (g.T.OrderTree.tree c.args.old)
          (g.T.OrderTree.tree pair.0) pair.1) (sym w.new-is)
          (some_step (list_given c.args.block.now.lists (slice_index c.args.order.now.vertices.items c.args.place)) w.items.result.now c.index-vertex.result.now (slice_index c.args.order.now.vertices.items c.args.place)
          w.as_slice-in-Some-2.result.now w.as_slice-in-Some-3.result.now
          (edges_in c.args.block.now.graph.ends c.args.order.now.later.items (slice_index c.args.order.now.vertices.items c.args.place))
          (edges_out c.args.block.now.graph.ends c.args.order.now.later.items (slice_index c.args.order.now.vertices.items c.args.place)) (g.T.OrderTree.tree c.args.old)
          (g.T.OrderTree.tree w.in_ok-new-in-Some.new) w.in_ok-new-in-Some.part
          (subst (λ v. list_given c.args.block.now.lists v ≡ Some w.in-Some.list.now) v_is w.in-Some.ensures
          ∙ ap Some (sym w.items.ensures))
          v_is (w.as_slice-in-Some-2.ensures.value ∙ ins_is) (w.as_slice-in-Some-3.ensures.value ∙ outs_is)
          w.in_ok-new-in-Some.ensures.step)
    ]
