-- The stages of an embedding, tree by tree: what a step needs of the tree before, what it gives, and that nothing is
-- embedded where it is refused.
use Rattle.std.proofs.Common.{◌≡◌, ◌≢◌, ℕ, ◌*◌, ◌<◌, ◌⊎◌, ◌↔◌, Bool, true, false, Option, Some, None, List, [], ◌∷◌, ◌++◌, length, map, reverse, sym, refl, ap, ◌∙◌, subst, inl, inr, ⊎_elim, arith}
use Rattle.std.specs.List.Sorted.{IsPermutation}
use Rattle.std.proofs.lemmas.List.Sorted.{IsPermutation-sym}
use Rattle.cp_lists.specs.CyclicLists.{Has, Distinct}
use Rattle.cp_lists.proofs.DistinctLists.{has_lacks, Has-append_left, Has-append_right, Has-append_cases, Distinct-apart, Distinct-append_right}
use Rattle.cp_lists.proofs.MappedLists.{Has-map_on, map_on-Has}
use Rattle.cp_faces.specs.Twins.{twin}
use Rattle.cp_faces.proofs.Twins.{twin-twin, half_twin, same_half}
use Rattle.cp_conn.specs.Darts.{start}
use Rattle.cp_pq.specs.declared.node.Node.{Node}
use Rattle.cp_pq.specs.declared.node.Node.TheVariants.{Q}
use Rattle.cp_pq.specs.declared.part.Part.{Part}
use Rattle.cp_pq.specs.Nodes.{leaves}
use Rattle.cp_pq.specs.Orders.{inside, outside, IsConsecutive, HasRow}
use Rattle.cp_pq.specs.Promises.{IsReplaced, IsNeverConsecutive, IsNeverInRow, ReadsPart, reading_of}
use Rattle.cp_pq.specs.Readings.{given, any_bit}
use Rattle.cp_pq.specs.Trees.{PQTree, IsPair, Admits, IsWellFormed}
use Rattle.cp_pq.proofs.PermutedLists.{Has-IsPermutation, Distinct-IsPermutation}
use Rattle.cp_pq.proofs.ReadingLaws.{read_leaves, read_wider}
use Rattle.cp_embed.specs.Directions.{directed, KeepsDirection, edge_of}
use Rattle.cp_embed.specs.ListedBlocks.{ListedGraph, list_given}
use Rattle.cp_embed.specs.Splits.{IsSplit}
use Rattle.cp_embed.specs.Sweeps.{ins_of, outs_of, LeadsInto, IsStagePair, IsSweep}
use Rattle.cp_embed.specs.TreePairs.{pairs_of}
use Rattle.cp_embed.specs.TreeSteps.{IsFreeStep, IsListedStep, IsTreeStep, IsRefusedStep, IsStageTree}
use Rattle.cp_embed.proofs.Arrangements.{IsArrangementOf-items}
use Rattle.cp_embed.proofs.DartLists.{outs_of-Has}
use Rattle.cp_embed.proofs.DirectedSplits.{directed-IsSplit}
use Rattle.cp_embed.proofs.PairSteps.{listed_step-SamePairs}
use Rattle.cp_embed.proofs.StagePairs.{IsStagePair-step}
use Rattle.cp_embed.proofs.Sweeps.{IsSweep-root, LeadsInto-edge, ins-LeadsInto, ins-not_after, outs-LeadsInto, LeadsInto-after, LeadsInto-before}
use Rattle.cp_embed.proofs.TreePairs.{Has-inside, Has-list_all, Lacks-outside}
use Rattle.cp_embed.proofs.TreeSteps.{free_tree_step, listed_tree_step, old_once, root_leads}

-- a pair of a tree has an order that the shape admits
pub IsPair-Admits : (tree : PQTree) (order : List ℕ) (bits : List Bool) → IsPair tree order bits → Admits tree order
IsPair-Admits tree order bits p =
    (p.word, p.order_is, read_wider (given bits) any_bit (λ v b h. refl) tree.body p.word p.reads)

-- a run of a distinct list is consecutive in it
pub run-IsConsecutive : (set front run behind : List ℕ) → Distinct (front ++ (run ++ behind))
    → ((d : ℕ) → Has d run ↔ Has d set) → IsConsecutive set (front ++ (run ++ behind))
run-IsConsecutive set front run behind once same = record {
  before = front;
  run = run;
  after = behind;
  order_is = refl;
  none_before = Has-list_all (outside set) front (λ d h. Lacks-outside set d (λ k.
      has_lacks d (run ++ behind) (Has-append_left d run behind ((same d).1 k))
      (Distinct-apart d front (run ++ behind) once h)));
  all_inside = Has-list_all (inside set) run (λ d h. Has-inside set d ((same d).0 h));
  none_after = Has-list_all (outside set) behind (λ d h. Lacks-outside set d (λ k.
      has_lacks d behind h (Distinct-apart d run behind (Distinct-append_right front (run ++ behind) once)
      ((same d).1 k))));
}

-- the readings of a part have the same leaves
pub part-same : (part : Part) (bits : List Bool) (us vs : List ℕ) (d : ℕ) → ReadsPart (given bits) part us
    → ReadsPart (given bits) part vs → Has d us → Has d vs
part-same part bits us vs d = by_var part.var part.kids
  where
    by_var : (var : Option ℕ) (kids : List Node) → reading_of (given bits) var kids us
        → reading_of (given bits) var kids vs → Has d us → Has d vs
    by_var None kids p q h =
        let same : p.0 ∷ [] ≡ q.0 ∷ [] = sym p.1 ∙ q.1 in
        let one : p.0 ≡ q.0 = cc in
        Has-IsPermutation d (leaves p.0) vs
        (subst (λ k. IsPermutation (leaves k) vs) (sym one) (read_leaves (given bits) q.0 vs q.2))
        (Has-IsPermutation d us (leaves p.0)
        (IsPermutation-sym (leaves p.0) us (read_leaves (given bits) p.0 us p.2)) h)
    by_var (Some v) kids p q h =
        Has-IsPermutation d (leaves (Q v kids)) vs (read_leaves (given bits) (Q v kids) vs q)
        (Has-IsPermutation d us (leaves (Q v kids))
        (IsPermutation-sym (leaves (Q v kids)) us (read_leaves (given bits) (Q v kids) us p)) h)

-- a block, the dart r, and a vertex x that is taken next behind y and others, with the tree of the stage before
module _ (block : ListedGraph) (r : ℕ)
    (no_loop : (d : ℕ) → d < 2 * length block.graph.ends
    → start block.graph.ends (twin d) ≢ start block.graph.ends d)
    (lt_r : r < 2 * length block.graph.ends) (x y : ℕ) (others : List ℕ)
    (sweep : IsSweep (start block.graph.ends) (length block.graph.ends) r (x ∷ y ∷ others)) (old : PQTree)
    (stage : IsStageTree block r (y ∷ others) old) (ins outs : List ℕ)
    (ins_are : (k : ℕ) → Has k ins
    ↔ Has k (map edge_of (ins_of (start block.graph.ends) (length block.graph.ends) (y ∷ others) x)))
    (outs_are : (k : ℕ) → Has k outs
    ↔ Has k (map edge_of (outs_of (start block.graph.ends) (length block.graph.ends) (y ∷ others) x))) where
  -- how many edges there are
  abbrev e : ℕ
  e = length block.graph.ends

  -- where the darts stand
  abbrev at : ℕ → ℕ
  at = start block.graph.ends

  -- what is given
  abbrev psi : ℕ → Option (List ℕ)
  psi = list_given block.lists

  -- what is taken before
  abbrev taken : List ℕ
  taken = y ∷ others

  -- how many vertices there are
  abbrev n : ℕ
  n = block.graph.vertices

  -- an edge to what is taken is a leaf of the body
  pub ins-leaf : (k : ℕ) → Has k ins → Has k (leaves old.body)
  ins-leaf k h =
      let c = map_on-Has edge_of k (ins_of at e taken x) ((ins_are k).0 h) in
      let leads = ins-LeadsInto at e r no_loop taken x sweep.0.new c.0 c.1 in
      ⊎_elim
      (λ same.
      let rl : LeadsInto at e taken r =
      root_leads at e r psi no_loop lt_r x y others sweep n old stage.vars stage.root stage.pairs in
      let is_r : c.0 ≡ r = LeadsInto-edge at e r taken c.0 r leads rl (c.2 ∙ sym same ∙ stage.root) in
      absurd (not_at_r c.0 c.1 is_r))
      (λ l. l)
      ((stage.leaves_are k).1 (c.0, c.2, leads))
    where
      not_at_r : (d : ℕ) → Has d (ins_of at e taken x) → d ≡ r → ⊥
      not_at_r d h same = ins-not_after at e r no_loop taken x sweep.0.new d h
          (subst (LeadsInto at e (x ∷ taken)) (sym same) (record {
            within = lt_r;
            outside = (IsSweep-root at e r (x ∷ taken) sweep).0;
            into = (IsSweep-root at e r (x ∷ taken) sweep).1;
          }))

  -- an edge to what is not taken is no leaf of the tree
  pub outs-fresh : (k : ℕ) → Has k outs → Has k (old.root ∷ leaves old.body) → ⊥
  outs-fresh k h l =
      let c = map_on-Has edge_of k (outs_of at e taken x) ((outs_are k).0 h) in
      let d = (stage.leaves_are k).0 l in
      let w = (outs_of-Has at e taken x c.0).0 c.1 in
      ⊎_elim
      (λ same. has_lacks (at (twin c.0)) taken (subst (λ z. Has (at (twin z)) taken) (sym same) d.2.into) w.2)
      (λ same. has_lacks x taken (subst (λ z. Has z taken) (ap at (ap twin same ∙ twin-twin c.0) ∙ w.1) d.2.into)
      sweep.0.new)
      (same_half c.0 d.0 (c.2 ∙ sym d.1))

  -- what stands in the place of the edges to what is taken has as its leaves those to what is not
  module _ (mid new : PQTree) (node : Node) (part : Part) (replaced : IsReplaced ins node mid new part)
      (mid_root : mid.root ≡ old.root) (mid_leaves : IsPermutation (leaves old.body) (leaves mid.body))
      (node_leaves : (k : ℕ) → Has k (leaves node) ↔ Has k outs) where
    -- the leaves of the body in between are distinct
    mid_once : Distinct (leaves mid.body)
    mid_once = Distinct-IsPermutation (leaves old.body) (leaves mid.body) mid_leaves stage.formed.distinct.1

    -- what stays is none of the edges to what is taken
    rest_apart : (k : ℕ) → Has k replaced.leaves_exchanged.rest → Has k ins → ⊥
    rest_apart k h i = has_lacks k replaced.leaves_exchanged.rest h
        (Distinct-apart k ins replaced.leaves_exchanged.rest
        (Distinct-IsPermutation (leaves mid.body) (ins ++ replaced.leaves_exchanged.rest)
        replaced.leaves_exchanged.old_are mid_once) i)

    -- the new root is the edge of r
    new_root : new.root ≡ edge_of r
    new_root = replaced.root ∙ mid_root ∙ stage.root

    -- the leaves of the new tree are the edges that leave what is taken then
    pub new_leaves : (k : ℕ) → Has k (new.root ∷ leaves new.body)
        ↔ ((d : ℕ) × (edge_of d ≡ k) × LeadsInto at e (x ∷ taken) d)
    new_leaves k = (
      ⊎_elim
          (λ same. (
            r,
            sym new_root ∙ same,
            record {
              within = lt_r;
              outside = (IsSweep-root at e r (x ∷ taken) sweep).0;
              into = (IsSweep-root at e r (x ∷ taken) sweep).1;
            },
          ))
          (λ l. ⊎_elim
          (λ of_node.
          let c = map_on-Has edge_of k (outs_of at e taken x) ((outs_are k).0 ((node_leaves k).0 of_node)) in (
            twin c.0,
            half_twin c.0 ∙ c.2,
            outs-LeadsInto at e r no_loop taken x sweep.0.new (twin c.0)
                (subst (λ z. Has z (outs_of at e taken x)) (sym (twin-twin c.0)) c.1),
          ))
          (λ of_rest.
          let d = (stage.leaves_are k).0 (inr (Has-IsPermutation k (leaves mid.body) (leaves old.body)
          (IsPermutation-sym (leaves old.body) (leaves mid.body) mid_leaves)
          (Has-IsPermutation k (ins ++ replaced.leaves_exchanged.rest) (leaves mid.body)
          (IsPermutation-sym (leaves mid.body) (ins ++ replaced.leaves_exchanged.rest)
          replaced.leaves_exchanged.old_are)
          (Has-append_right k ins replaced.leaves_exchanged.rest of_rest))))
          in (
            d.0,
            d.1,
            ⊎_elim
                (λ i. absurd (rest_apart k of_rest ((ins_are k).1
                (subst (λ z. Has z (map edge_of (ins_of at e taken x))) d.1
                (Has-map_on edge_of d.0 (ins_of at e taken x) i)))))
                (λ q. q)
                (LeadsInto-after at e r no_loop taken x sweep.0.new d.0 d.2),
          ))
          (Has-append_cases k (leaves node) replaced.leaves_exchanged.rest
          (Has-IsPermutation k (leaves new.body) (leaves node ++ replaced.leaves_exchanged.rest)
          replaced.leaves_exchanged.new_are l))),
      λ q. ⊎_elim
          (λ o. inr (in_new k (Has-append_left k (leaves node) replaced.leaves_exchanged.rest ((node_leaves k).1
          ((outs_are k).1 (subst (λ z. Has z (map edge_of (outs_of at e taken x))) (half_twin q.0 ∙ q.1)
          (Has-map_on edge_of (twin q.0) (outs_of at e taken x) o)))))))
          (λ b. ⊎_elim
          (λ same. inl (replaced.root ∙ mid_root ∙ same))
          (λ l. inr (in_new k (Has-append_right k (leaves node) replaced.leaves_exchanged.rest (⊎_elim
          (λ i.
          let c = map_on-Has edge_of k (ins_of at e taken x) ((ins_are k).0 i) in
          let same : c.0 ≡ q.0 = LeadsInto-edge at e r taken c.0 q.0
          (ins-LeadsInto at e r no_loop taken x sweep.0.new c.0 c.1) b (c.2 ∙ sym q.1)
          in
          absurd (ins-not_after at e r no_loop taken x sweep.0.new c.0 c.1
          (subst (LeadsInto at e (x ∷ taken)) (sym same) q.2)))
          (λ rest. rest)
          (Has-append_cases k ins replaced.leaves_exchanged.rest
          (Has-IsPermutation k (leaves mid.body) (ins ++ replaced.leaves_exchanged.rest)
          replaced.leaves_exchanged.old_are
          (Has-IsPermutation k (leaves old.body) (leaves mid.body) mid_leaves l)))))))
          ((stage.leaves_are k).1 (q.0, q.1, b)))
          (LeadsInto-before at e r no_loop taken x sweep.0.new q.0 q.2),
    )
      where
        in_new : (j : ℕ) → Has j (leaves node ++ replaced.leaves_exchanged.rest) → Has j (leaves new.body)
        in_new j h = Has-IsPermutation j (leaves node ++ replaced.leaves_exchanged.rest) (leaves new.body)
            (IsPermutation-sym (leaves new.body) (leaves node ++ replaced.leaves_exchanged.rest)
            replaced.leaves_exchanged.new_are) h

  -- a split in the terms of the sweep
  split_items : (list first second : List ℕ) → IsSplit list ins outs first second
      → IsSplit list (map edge_of (ins_of at e taken x)) (map edge_of (outs_of at e taken x)) first second
  split_items list first second s = record {
    turn = s.turn;
    first_is = IsArrangementOf-items first ins (map edge_of (ins_of at e taken x)) s.first_is ins_are;
    second_is = IsArrangementOf-items second outs (map edge_of (outs_of at e taken x)) s.second_is outs_are;
  }

  -- and back
  items_split : (list first second : List ℕ)
      → IsSplit list (map edge_of (ins_of at e taken x)) (map edge_of (outs_of at e taken x)) first second
      → IsSplit list ins outs first second
  items_split list first second s = record {
    turn = s.turn;
    first_is = IsArrangementOf-items first (map edge_of (ins_of at e taken x)) ins s.first_is
        (λ k. ((ins_are k).1, (ins_are k).0));
    second_is = IsArrangementOf-items second (map edge_of (outs_of at e taken x)) outs s.second_is
        (λ k. ((outs_are k).1, (outs_are k).0));
  }

  -- a step without a given list gives the tree of the next stage
  pub free_step-IsStageTree : (new : PQTree) (part : Part) → psi x ≡ None → IsWellFormed new
      → IsFreeStep x ins outs old new part → IsStageTree block r (x ∷ taken) new
  free_step-IsStageTree new part none formed s = record {
    formed = formed;
    root = s.replaced.root ∙ s.reduced.root ∙ stage.root;
    vars = omega (arith, stage.vars, s.reduced.vars_kept, s.replaced.vars);
    leaves_are = new_leaves s.mid new s.node part s.replaced s.reduced.root s.reduced.leaves_kept s.node_leaves;
    pairs = free_tree_step at e r psi no_loop lt_r x y others sweep n old stage.vars stage.root stage.pairs
        ins ins_are s.mid new s.node part s.replaced (part-same part) none s.reduced outs outs_are s.reads;
  }

  -- and so does one with a given list
  pub listed_step-IsStageTree : (new : PQTree) (part : Part) (list : List ℕ) → psi x ≡ Some list → Distinct list
      → x < n → IsWellFormed new → IsListedStep x list ins outs old new part → IsStageTree block r (x ∷ taken) new
  listed_step-IsStageTree new part list is_given once lt formed s = record {
    formed = formed;
    root = s.replaced.root ∙ s.forced.root ∙ stage.root;
    vars = omega (arith, stage.vars, s.forced.vars_kept, s.replaced.vars);
    leaves_are = new_leaves s.mid new s.node part s.replaced s.forced.root s.forced.leaves_kept s.node_leaves;
    pairs = listed_tree_step at e r psi no_loop lt_r x y others sweep n old stage.vars stage.root stage.pairs
        ins ins_are s.mid new s.node part s.replaced (part-same part) list s.first s.second is_given once
        (split_items list s.first s.second s.split) lt s.forced s.reads.only s.reads.all;
  }

  -- a step that is taken
  pub step-IsStageTree : (new : PQTree) (part : Part) (list : Option (List ℕ)) → psi x ≡ list
      → ((l : List ℕ) → psi x ≡ Some l → Distinct l) → x < n → IsWellFormed new
      → IsTreeStep list x ins outs old new part → IsStageTree block r (x ∷ taken) new
  step-IsStageTree new part None is_given once lt formed s = free_step-IsStageTree new part is_given formed s
  step-IsStageTree new part (Some list) is_given once lt formed s =
      listed_step-IsStageTree new part list is_given (once list is_given) lt formed s

  -- where no order of the shape has the edges to what is taken consecutive, the next stage has no pair
  free_refused : IsNeverConsecutive ins old → (word : List ℕ) (bit : ℕ → Bool)
      → IsStagePair at e psi r (x ∷ taken) word bit → ⊥
  free_refused never word bit p =
      let w = (IsStagePair-step at e r psi no_loop x y others sweep word bit).0 p in
      let q = (stage.pairs (w.front ++ (w.us ++ w.behind)) bit).1 w.taken_from in
      never (old.root ∷ (w.front ++ (w.us ++ w.behind)))
      (IsPair-Admits old (old.root ∷ (w.front ++ (w.us ++ w.behind))) q.0 q.1)
      (run-IsConsecutive ins (old.root ∷ w.front) w.us w.behind
      (old_once at e r psi no_loop lt_r x y others sweep n old stage.vars stage.root stage.pairs
      (w.front ++ (w.us ++ w.behind)) bit q)
      (λ d. (
        (λ h. (ins_are d).1 ((w.us_is.items d).0 h)),
        (λ h. (w.us_is.items d).1 ((ins_are d).0 h)),
      )))

  -- a run in a direction is a row in either direction
  directed_row : (b : Bool) (row front behind : List ℕ)
      → HasRow row (front ++ (directed b row ++ behind)) ⊎ HasRow (reverse row) (front ++ (directed b row ++ behind))
  directed_row false row front behind = inl (front, behind, refl)
  directed_row true row front behind = inr (front, behind, refl)

  -- where no split of the given list has its first part as a row in an order of the shape, the next stage has no pair
  listed_refused : (list : List ℕ) → psi x ≡ Some list → Distinct list
      → ((first second : List ℕ) → IsSplit list ins outs first second → IsNeverInRow first old) → (word : List ℕ)
      (bit : ℕ → Bool) → IsStagePair at e psi r (x ∷ taken) word bit → ⊥
  listed_refused list is_given once never word bit p =
      let w = (IsStagePair-step at e r psi no_loop x y others sweep word bit).0 p in
      let s = directed-IsSplit (bit x) list (map edge_of (ins_of at e taken x)) (map edge_of (outs_of at e taken x))
      w.us w.vs (record {
        turn = subst (λ l. KeepsDirection l (bit x) (w.us ++ w.vs)) is_given w.list_kept;
        first_is = w.us_is;
        second_is = w.vs_is;
      })
      in
      let q = (listed_step-SamePairs at e r psi no_loop x y others sweep (pairs_of n old) stage.pairs list is_given
      s.0 s.1 once s.2 word bit).1 p
      in
      let t : pairs_of n old (q.front ++ (directed (bit x) s.0 ++ q.behind)) bit = q.pair.pair in
      never s.0 s.1 (items_split list s.0 s.1 s.2) (old.root ∷ (q.front ++ (directed (bit x) s.0 ++ q.behind)))
      (IsPair-Admits old (old.root ∷ (q.front ++ (directed (bit x) s.0 ++ q.behind))) t.0 t.1)
      (directed_row (bit x) s.0 (old.root ∷ q.front) q.behind)

  -- where a step is refused, the next stage has no pair
  pub refused_step-none : (list : Option (List ℕ)) → psi x ≡ list → ((l : List ℕ) → psi x ≡ Some l → Distinct l)
      → IsRefusedStep list ins outs old → (word : List ℕ) (bit : ℕ → Bool)
      → IsStagePair at e psi r (x ∷ taken) word bit → ⊥
  refused_step-none None is_given once never = free_refused never
  refused_step-none (Some list) is_given once never = listed_refused list is_given (once list is_given) never
