-- The part that a set fills: it exists where each reading has the set together.
use Rattle.std.proofs.Common.{◌≡◌, ◌≢◌, ℕ, ◌≤◌, Bool, true, false, Option, Some, None, ◌||◌, not, eqb, List, [], ◌∷◌}
use Rattle.std.proofs.Common.{◌++◌, length, ⊎_elim, refl, sym, ap, ◌∙◌, subst, arith, IsPermutation}
use Rattle.std.specs.List.{list_all}
use Rattle.std.proofs.lemmas.Bool.{and_parts, eq-eqb, both_ways}
use Rattle.std.proofs.lemmas.List.Sorted.{IsPermutation-trans}
use Rattle.cp_lists.specs.CyclicLists.{Has, Distinct}
use Rattle.cp_lists.proofs.DistinctLists.{Has-append_cases, Distinct-append_left}
use Rattle.cp_pq.specs.declared.node.Node.{Node}
use Rattle.cp_pq.specs.declared.node.Node.TheVariants.{Q}
use Rattle.cp_pq.specs.declared.found.Found.{Found}
use Rattle.cp_pq.specs.declared.frame.Label.{Label}
use Rattle.cp_pq.specs.declared.frame.Frame.{Frame}
use Rattle.cp_pq.specs.declared.hole.Hole.{Hole}
use Rattle.cp_pq.specs.declared.part.Part.{Part}
use Rattle.cp_pq.specs.declared.step.Top.{Top}
use Rattle.cp_pq.specs.Nodes.{leaves, all_leaves}
use Rattle.cp_pq.specs.Readings.{any_bit, forward}
use Rattle.cp_pq.specs.Trees.{PQTree, IsWellFormed, Admits}
use Rattle.cp_pq.specs.Orders.{inside, outside, IsConsecutive}
use Rattle.cp_pq.specs.Promises.{IsLeafSet}
use Rattle.cp_pq.specs.Words.{Opposite, has_all}
use Rattle.cp_pq.specs.Frames.{fill, AreOutside}
use Rattle.cp_pq.specs.Steps.{IsTop}
use Rattle.cp_pq.specs.Holes.{IsInQ, IsPartAt, IsTakenOut}
use Rattle.cp_pq.specs.Cuts.{IsCut, IsAlwaysTogether, IsTaken}
use Rattle.cp_pq.proofs.NodeLayers.{all_leaves_one}
use Rattle.cp_lists.proofs.PermutedLists.{IsPermutation-from}
use Rattle.cp_pq.proofs.PermutedLists.{Has-IsPermutation, Distinct-IsPermutation}
use Rattle.cp_pq.proofs.Permutations.{IsPermutation-same}
use Rattle.cp_pq.proofs.NodeReadings.{as_it_stands}
use Rattle.cp_pq.proofs.Rows.{row_all}
use Rattle.cp_pq.proofs.Closes.{has_all_Q}
use Rattle.cp_pq.proofs.ConsecutiveWords.{consecutive_together}
use Rattle.cp_pq.proofs.LeafSets.{inside_of}
use Rattle.cp_pq.proofs.RisingLists.{rising_distinct}
use Rattle.cp_pq.proofs.Holes.{filled_node}
use Rattle.cp_pq.proofs.FilledRows.{fill_append, outside_append, beside_leaves, filled_leaves, beside_outside}
use Rattle.cp_pq.proofs.AlwaysTogether.{Run, run_of, never_P, middle_together}
use Rattle.cp_pq.proofs.Cuts.{cut_found, zip_clear, run_long, run_beside}

module _ (q p : ℕ → Bool) (opp : Opposite q p) where
  -- where a P-node has its kids compared, some order has the set apart
  pub never_taken_P : (o : ℕ) (k : Node) (founds : List Found) → IsTop q p k (Top.Met (Label.P o) founds)
      → IsAlwaysTogether q p k → ⊥
  never_taken_P o k founds t f =
      never_P q p opp o t.0 (zip_clear q p t.0 founds t.2) (subst (IsAlwaysTogether q p) t.1 f)
      (ap (has_all p) (sym t.1) ∙ t.3) t.4

  -- the kids of a Q-node that are met are a run
  pub run_at : (v : ℕ) (k : Node) (founds : List Found) (t : IsTop q p k (Top.Met (Label.Q v) founds))
      → IsAlwaysTogether q p k → Run q p t.0
  run_at v k founds t f = run_of q p opp t.0 (λ u r. subst (IsAlwaysTogether q p) t.1 f u (forward v t.0 u refl r)) t.4

  -- a long run is not empty
  some_run : (run : List Node) → 2 ≤ length run → run ≢ []
  some_run [] two e = absurd (omega (arith, two))
  some_run (x ∷ run) two e = cc

  -- so its compared kids can be cut
  pub cut_at : (v : ℕ) (k : Node) (founds : List Found) (t : IsTop q p k (Top.Met (Label.Q v) founds))
      → (f : IsAlwaysTogether q p k)
      → ((run_at v k founds t f).run ≢ [])
      × IsCut founds (run_at v k founds t f).before (run_at v k founds t f).run (run_at v k founds t f).after
  cut_at v k founds t f =
      let r = run_at v k founds t f in
      (some_run r.run (run_long q p t.0 r t.4), cut_found q p t.0 founds t.2 r)

  -- and the run is the part
  pub run_taken : (v : ℕ) (k : Node) (founds : List Found) (t : IsTop q p k (Top.Met (Label.Q v) founds))
      → (f : IsAlwaysTogether q p k) → (frames : List Frame) (before run after : List Node)
      → before ≡ (run_at v k founds t f).before → run ≡ (run_at v k founds t f).run
      → after ≡ (run_at v k founds t f).after
      → frames ≡ record { label = Label.Q v; before = before; after = after } ∷ []
      → IsTaken q p k frames (record { kids = run; var = Some v })
  run_taken v k founds t f frames before run after eb er ea ef =
      subst (λ z. IsTaken q p k z (record { kids = run; var = Some v })) (sym ef) (record {
        node_is = ap (λ z. z ∷ []) (t.1 ∙ ap (Q v) (r.is ∙ kids));
        beside = (ap (list_all (has_all q)) eb ∙ r.out_before, ap (list_all (has_all q)) ea ∙ r.out_after, tt);
        all_inside = ap (list_all (has_all p)) er ∙ r.all_in;
        part_is = (subst (λ z. 2 ≤ length z) (sym er) (run_long q p t.0 r t.4), (refl, some));
      })
    where
      r : Run q p t.0
      r = run_at v k founds t f

      kids : r.before ++ (r.run ++ r.after) ≡ before ++ (run ++ after)
      kids = ap (λ z. z ++ (r.run ++ r.after)) (sym eb) ∙ ap (λ z. before ++ (z ++ r.after)) (sym er)
          ∙ ap (λ z. before ++ (run ++ z)) (sym ea)

      some : 1 ≤ length (before ++ after)
      some =
          let not_all : list_all (has_all p) t.0 ≡ false = sym (has_all_Q p v t.0) ∙ ap (has_all p) (sym t.1) ∙ t.3 in
          let l = run_beside q p t.0 r not_all in
          subst (λ z. 1 ≤ length z) (ap (λ z. z ++ r.after) (sym eb) ∙ ap (λ z. before ++ z) (sym ea)) l

  -- what stands in frames has the set together where the whole has
  pub inner_together : (fs : List Frame) (k n : Node) → n ∷ [] ≡ fill fs (k ∷ []) → IsAlwaysTogether q p n
      → IsAlwaysTogether q p k
  inner_together fs k n e f u r =
      let g = filled_node any_bit fs k k n n e e (leaves n) (as_it_stands any_bit (λ v. refl) n) in
      middle_together q p opp g.before u g.after (f (g.before ++ (u ++ g.after)) (g.again u r))

-- the innermost frame stays when frames are put round it
in_more : (v : ℕ) (fs gs : List Frame) → IsInQ v fs → IsInQ v (fs ++ gs)
in_more v [] gs h = absurd h
in_more v (f ∷ fs) gs h = h

-- so does what is said of a part
part_in_more : (fs gs : List Frame) (var : Option ℕ) (kids : List Node) → IsPartAt fs var kids
    → IsPartAt (fs ++ gs) var kids
part_in_more fs gs None kids h = h
part_in_more fs gs (Some v) kids h = (h.0, in_more v fs gs h.1)

-- the part of a node in frames is the part of the whole
pub outer_taken : (q p : ℕ → Bool) (fs gs : List Frame) (k n : Node) (part : Part) → n ∷ [] ≡ fill gs (k ∷ [])
    → AreOutside q gs
    → IsTaken q p k fs part → IsTaken q p n (fs ++ gs) part
outer_taken q p fs gs k n part e out h = record {
  node_is = e ∙ ap (fill gs) h.node_is ∙ sym (fill_append fs gs part.kids);
  beside = outside_append q fs gs h.beside out;
  all_inside = h.all_inside;
  part_is = part_in_more fs gs part.var part.kids h.part_is;
}

-- the second of two tests
or_right : (b c : Bool) → c ≡ true → (b || c) ≡ true
or_right true c e = refl
or_right false c e = e

-- an item of the set is inside
pub has_inside : (set : List ℕ) (x : ℕ) → Has x set → inside set x ≡ true
has_inside [] x h = absurd h
has_inside (y ∷ set) x h =
    ⊎_elim (λ e. ap (λ b. b || inside set x) (eq-eqb y x e))
    (λ m. or_right (eqb y x) (inside set x) (has_inside set x m)) h

-- what all items of a list pass each item passes
pub all_has : (t : ℕ → Bool) (xs : List ℕ) (x : ℕ) → list_all t xs ≡ true → Has x xs → t x ≡ true
all_has t [] x a h = absurd h
all_has t (y ∷ xs) x a h = let g = and_parts (t y) (list_all t xs) a in
    ⊎_elim (λ e. subst (λ z. t z ≡ true) e g.0) (λ m. all_has t xs x g.1 m) h

-- an item outside is not in the set
pub outside_lacks : (set : List ℕ) (x : ℕ) → outside set x ≡ true → Has x set → ⊥
outside_lacks set x o h = both_ways (outside set x) (ap (λ b. not b) (has_inside set x h)) o

module _ (set : List ℕ) (tree : PQTree) (wf : IsWellFormed tree) (ls : IsLeafSet set tree) where
  -- each reading of the body has the set together, where each order of the shape has it consecutive
  pub body_together : ((order : List ℕ) → Admits tree order → IsConsecutive set order) → outside set tree.root ≡ true
      → IsAlwaysTogether (outside set) (inside set) tree.body
  body_together all apart word r =
      consecutive_together set tree.root word apart (all (tree.root ∷ word) (word, refl, r))

  -- the part that the set fills is taken out
  pub taken_whole : (hole : Hole) (part : Part) → hole.root ≡ tree.root → hole.vars ≡ tree.vars
      → hole.equations ≡ tree.equations → IsTaken (outside set) (inside set) tree.body hole.frames part
      → IsTakenOut set tree hole part
  taken_whole hole part er ev ee t = record {
    root_is = er;
    vars_are = ev;
    equations_are = ee;
    body_is = t.node_is;
    beside = t.beside;
    set_is = IsPermutation-from set (all_leaves part.kids) (rising_distinct set ls.rising) once to from;
    part_is = t.part_is;
  }
    where
      are : IsPermutation (leaves tree.body) (all_leaves part.kids ++ beside_leaves hole.frames)
      are = IsPermutation-trans _ _ _
          (IsPermutation-same _ _ (sym (all_leaves_one tree.body) ∙ ap all_leaves t.node_is))
          (filled_leaves hole.frames part.kids)

      once : Distinct (all_leaves part.kids)
      once = Distinct-append_left (all_leaves part.kids) (beside_leaves hole.frames)
          (Distinct-IsPermutation _ _ are wf.distinct.1)

      to : (x : ℕ) → Has x set → Has x (all_leaves part.kids)
      to x h = ⊎_elim
          (λ m. m)
          (λ m. absurd (outside_lacks set x
          (all_has (outside set) (beside_leaves hole.frames) x (beside_outside (outside set) hole.frames t.beside)
          m) h))
          (Has-append_cases x (all_leaves part.kids) (beside_leaves hole.frames)
          (Has-IsPermutation x _ _ are (ls.leaves_of x h)))

      from : (x : ℕ) → Has x (all_leaves part.kids) → Has x set
      from x h = inside_of set x
          (all_has (inside set) (all_leaves part.kids) x (row_all (inside set) part.kids ∙ t.all_inside) h)
