-- The parts between two poles in another order keep genus zero.
use Rattle.std.proofs.Common.{◌≡◌, ◌≢◌, ℕ, ◌*◌, ◌/◌, ◌<◌, ◌⊎◌, ◌&&◌, Bool, true, false, not, eqb, List, [], ◌∷◌, ◌++◌, length, map, sym, refl, ap, ◌∙◌, subst, inl, inr, ⊎_elim}
use Rattle.std.proofs.lemmas.Bool.{cases_Bool, cases_eq, eq-eqb, eqb-true, false≢true, ne_eqb, not-true, not_from_false}
use Rattle.std.specs.List.{filter}
use Rattle.cp_lists.specs.CyclicLists.{Distinct, Has, follow}
use Rattle.cp_lists.specs.Rows.{flat}
use Rattle.cp_lists.specs.Turns.{IsTurn}
use Rattle.cp_lists.proofs.DistinctLists.{Distinct-append, Distinct-append_left, Distinct-append_right, Exactly-Distinct, Exactly-Has, Exactly-from, Has-append_cases, Has-append_left, Has-append_right, Lacks-from, has_lacks}
use Rattle.cp_lists.proofs.FilteredLists.{Has-filter, filter-Distinct, filter-Has, filter_agree, filter_twice}
use Rattle.cp_lists.proofs.FlatLists.{flat-append}
use Rattle.cp_lists.proofs.TurnedLists.{Has-of_turn, turn-Distinct, turn-Has, turn-filter, turn-trans}
use Rattle.cp_faces.specs.Twins.{twin}
use Rattle.cp_maps.specs.Genus.{CanBeFlat, IsFlat}
use Rattle.cp_maps.specs.Maps.{IsMapOf, Ring, Rings}
use Rattle.cp_maps.proofs.FewerDarts.{CanBeFlat-IsFlat}
use Rattle.cp_maps.proofs.NamedLists.{named_item}
use Rattle.cp_maps.proofs.Rings.{Rings-append}
use Rattle.cp_maplaw.proofs.NamedRests.{named_some}
use Rattle.cp_maplaw.proofs.Systems.{system_flat}
use Rattle.cp_mergelaw.specs.Branches.{Branch, EachBranch, HasTwins, IsBranchOf, all_darts, closed_lists, heads, inners, tails}
use Rattle.cp_mergelaw.proofs.JoinedBranches.{permuted_branches-CanBeFlat}
use Rattle.cp_mergelaw.proofs.LinkedPoles.{rest-CanBeFlat}
use Rattle.cp_rot.specs.Genus.{HasGenusZero}
use Rattle.cp_rot.specs.Systems.{Arranges, IsRotation, System, darts, edges, list_of, next, vertex_of}
use Rattle.cp_rot.proofs.Functions.{next-follow}
use Rattle.cp_rot.proofs.ListSystems.{Listed, Listed-system}
use Rattle.cp_rotlaw.specs.PoleClasses.{ArePoleParts, HasEndsApart, IsEnteredTest, joined_rows, permuted_row}
use Rattle.cp_rotlaw.specs.Poles.{IsPermutedAt}
use Rattle.cp_rotlaw.specs.StarParts.{star_row}
use Rattle.cp_rotlaw.specs.Stars.{IsDartOf}
use Rattle.cp_rotlaw.proofs.NamedMaps.{named_lists-Distinct, rings_of_names}
use Rattle.cp_rotlaw.proofs.PoleLists.{ends_turn, part_or}
use Rattle.cp_rotlaw.proofs.PoleMaps.{branch_of, of_part, others-Distinct, others_are, others_have, part_of_other, poles-IsMapOf, poles_linked, tested-SameRings, vertices_but}
use Rattle.cp_rotlaw.proofs.StarCode.{far_within}

-- the branches of some darts
abbrev branches : System → ℕ → ℕ → (ℕ → ℕ) → (ℕ → ℕ) → List ℕ → List ℕ → List Branch
branches r u v number part ws [] = []
branches r u v number part ws (x ∷ xs) = branch_of r u v number part ws x ∷ branches r u v number part ws xs

-- the lists of some systems with two poles
module _ (r : System) (is : IsRotation r) (u v : ℕ) (ltu : u < r.vertices) (ltv : v < r.vertices) (differ : u ≢ v)
    (number part : ℕ → ℕ) (parts : ArePoleParts r u v number part) (entered : ℕ → Bool)
    (test : IsEnteredTest r u part entered) (ws : List ℕ)
    (turn : IsTurn (filter (λ d. entered (part d)) (list_of r v)) ws) (ends : HasEndsApart part ws) where
  -- the number of edges
  abbrev n : ℕ
  n = edges r

  -- the lists
  abbrev lists : ℕ → List ℕ
  lists = list_of r

  -- the vertices between
  abbrev others : List ℕ
  others = vertices_but r u v

  -- those of parts that no dart of u enters
  abbrev free : List ℕ
  free = filter (λ w. not (entered (number w))) others

  -- their lists
  abbrev free_rows : List (List ℕ)
  free_rows = map lists free

  -- the darts of v that lead to such parts
  abbrev zs : List ℕ
  zs = filter (λ d. not (entered (part d))) (lists v)

  -- the branch of a dart
  abbrev branch : ℕ → Branch
  branch = branch_of r u v number part ws

  -- the branches of some darts
  abbrev bs : List ℕ → List Branch
  bs = branches r u v number part ws

  -- the lists of the system have the darts of their vertices
  l : Listed r.vertices (darts r) (vertex_of r) (list_of r)
  l = Listed-system r is

  -- a dart of v in ws
  ws_are : (d : ℕ) → Has d ws → IsDartOf r v d × (entered (part d) ≡ true)
  ws_are d h =
      let k = filter-Has (λ x. entered (part x)) d (lists v)
      (Has-of_turn (filter (λ x. entered (part x)) (lists v)) ws d turn h) in
      let i = l.item v d ltv k.0 in (record { within = i.0; stands = i.1 }, k.1)

  -- is one that leads to a part that a dart of u enters
  ws_have : (d : ℕ) → IsDartOf r v d → entered (part d) ≡ true → Has d ws
  ws_have d at t =
      turn-Has (filter (λ x. entered (part x)) (lists v)) ws d turn
      (Has-filter (λ x. entered (part x)) d (lists v)
      (subst (λ w. Has d (lists w)) at.stands (l.own d at.within)) t)

  -- none stands twice
  ws-Distinct : Distinct ws
  ws-Distinct = turn-Distinct (filter (λ x. entered (part x)) (lists v)) ws turn
      (filter-Distinct (λ x. entered (part x)) (lists v) (l.distinct v ltv))

  -- the darts of the branch of x are of its part
  branch_dart : (x : ℕ) → IsDartOf r u x → (d : ℕ) → Has d (flat (closed_lists (branch x)))
      → (d < darts r) × (part d ≡ part x)
  branch_dart x at d h =
      let tail : List ℕ = star_row part ws (part x) in
      let inner : List (List ℕ) = map lists (of_part number (part x) others) in
      ⊎_elim
      (λ k. ⊎_elim
      (λ t. let f = filter-Has (λ y. eqb (part y) (part x)) d ws t in
      ((ws_are d f.0).0.within, eqb-true (part d) (part x) f.1))
      (λ t. ⊎_elim (λ e. (subst (λ y. y < darts r) e at.within, ap part (sym e))) (λ none. absurd none) t)
      (Has-append_cases d tail (x ∷ []) k))
      (λ k. let o : (w : ℕ) × Has w (of_part number (part x) others) × Has d (lists w) =
      named_some lists (of_part number (part x) others) d k in
      let f = filter-Has (λ w. eqb (number w) (part x)) o.0 others o.1 in
      let p = part_of_other r is u v ltu ltv differ number part parts o.0 d f.0 o.2 in
      (p.0, p.2 ∙ eqb-true (number o.0) (part x) f.1))
      (Has-append_cases d (tail ++ x ∷ []) (flat inner) h)

  -- and it has all darts of this part
  dart_branch : (x : ℕ) → IsDartOf r u x → (d : ℕ) → d < darts r → part d ≡ part x
      → Has d (flat (closed_lists (branch x)))
  dart_branch x at d lt same =
      let tail : List ℕ = star_row part ws (part x) in
      let inner : List (List ℕ) = map lists (of_part number (part x) others) in
      ⊎_elim
      (λ e. Has-append_left d (tail ++ x ∷ []) (flat inner) (Has-append_right d tail (x ∷ [])
      (inl (sym (parts.one_each d x (record { within = lt; stands = e }) at same)))))
      (λ nu. ⊎_elim
      (λ e. Has-append_left d (tail ++ x ∷ []) (flat inner) (Has-append_left d tail (x ∷ [])
      (Has-filter (λ y. eqb (part y) (part x)) d ws
      (ws_have d (record { within = lt; stands = e }) (ap entered same ∙ test.yes x at))
      (eq-eqb (part d) (part x) same))))
      (λ nv. Has-append_right d (tail ++ x ∷ []) (flat inner)
      (named_item lists (of_part number (part x) others) (vertex_of r d) d
      (Has-filter (λ w. eqb (number w) (part x)) (vertex_of r d) others
      (others_have r is u v ltu ltv differ number part parts (vertex_of r d) (is.placed d lt) nu nv)
      (eq-eqb (number (vertex_of r d)) (part x) (sym (parts.inner d lt nu nv) ∙ same)))
      (l.own d lt)))
      (cases_eq (vertex_of r d) v))
      (cases_eq (vertex_of r d) u)

  -- so it has both darts of each edge
  branch-HasTwins : (x : ℕ) → IsDartOf r u x → HasTwins (branch x)
  branch-HasTwins x at d h =
      let k = branch_dart x at d h in
      dart_branch x at (twin d) (far_within r is d k.0).0 (parts.twins d k.0 ∙ k.1)

  -- no dart stands twice in it
  branch-Distinct : (x : ℕ) → IsDartOf r u x → Distinct (flat (closed_lists (branch x)))
  branch-Distinct x at =
      let tail : List ℕ = star_row part ws (part x) in
      let names : List ℕ = of_part number (part x) others in
      let other : (w : ℕ) → Has w names → (w < r.vertices) × (w ≢ u) × (w ≢ v) = λ w h.
      others_are r is u v ltu ltv differ number part parts w
      (filter-Has (λ y. eqb (number y) (part x)) w others h).0 in
      let in_tail : (d : ℕ) → Has d tail → vertex_of r d ≡ v = λ d h.
      (ws_are d (filter-Has (λ y. eqb (part y) (part x)) d ws h).0).0.stands in
      Distinct-append (tail ++ x ∷ []) (flat (map lists names))
      (Distinct-append tail (x ∷ []) (filter-Distinct (λ y. eqb (part y) (part x)) ws ws-Distinct) (tt, tt)
      (λ d h. ((λ e. differ (sym at.stands ∙ ap (vertex_of r) e ∙ in_tail d h)), tt)))
      (named_lists-Distinct (vertex_of r) lists names
      (filter-Distinct (λ y. eqb (number y) (part x)) others
      (others-Distinct r is u v ltu ltv differ number part parts))
      (λ w h. l.distinct w (other w h).0) (λ w d h k. (l.item w d (other w h).0 k).1))
      (λ d h. Lacks-from d (flat (map lists names)) (λ k.
      let o : (w : ℕ) × Has w names × Has d (lists w) = named_some lists names d k in
      let at_other : vertex_of r d ≡ o.0 = (l.item o.0 d (other o.0 o.1).0 o.2).1 in
      ⊎_elim (λ t. (other o.0 o.1).2 (sym at_other ∙ in_tail d t))
      (λ t. ⊎_elim (λ e. (other o.0 o.1).1 (sym at_other ∙ ap (vertex_of r) (sym e) ∙ at.stands)) (λ none. none) t)
      (Has-append_cases d tail (x ∷ []) h)))

  -- a dart of no branch leads to a part that no dart of u enters
  free_dart : (d : ℕ) → Has d (zs ++ flat free_rows) → (d < darts r) × (entered (part d) ≡ false)
  free_dart d h = ⊎_elim
      (λ k. let f = filter-Has (λ y. not (entered (part y))) d (lists v) k in
      ((l.item v d ltv f.0).0, not-true (entered (part d)) f.1))
      (λ k. let o : (w : ℕ) × Has w free × Has d (lists w) = named_some lists free d k in
      let f = filter-Has (λ w. not (entered (number w))) o.0 others o.1 in
      let p = part_of_other r is u v ltu ltv differ number part parts o.0 d f.0 o.2 in
      (p.0, ap entered p.2 ∙ not-true (entered (number o.0)) f.1))
      (Has-append_cases d zs (flat free_rows) h)

  -- none of these stands twice
  free-Distinct : Distinct (zs ++ flat free_rows)
  free-Distinct =
      let other : (w : ℕ) → Has w free → (w < r.vertices) × (w ≢ u) × (w ≢ v) = λ w h.
      others_are r is u v ltu ltv differ number part parts w
      (filter-Has (λ y. not (entered (number y))) w others h).0 in
      Distinct-append zs (flat free_rows)
      (filter-Distinct (λ y. not (entered (part y))) (lists v) (l.distinct v ltv))
      (named_lists-Distinct (vertex_of r) lists free
      (filter-Distinct (λ y. not (entered (number y))) others
      (others-Distinct r is u v ltu ltv differ number part parts))
      (λ w h. l.distinct w (other w h).0) (λ w d h k. (l.item w d (other w h).0 k).1))
      (λ d h. Lacks-from d (flat free_rows) (λ k.
      let o : (w : ℕ) × Has w free × Has d (lists w) = named_some lists free d k in
      (other o.0 o.1).2 (sym (l.item o.0 d (other o.0 o.1).0 o.2).1
      ∙ (l.item v d ltv (filter-Has (λ y. not (entered (part y))) d (lists v) h).0).1)))

  -- all darts of some branches, and those of none
  abbrev darts_of : List ℕ → List ℕ
  darts_of xs = all_darts zs free_rows (bs xs)

  -- such a dart is of none, or of the part of one of the darts
  all_dart : (xs : List ℕ) → ((x : ℕ) → Has x xs → IsDartOf r u x) → (d : ℕ) → Has d (darts_of xs)
      → Has d (zs ++ flat free_rows) ⊎ ((x : ℕ) × Has x xs × (part d ≡ part x))
  all_dart [] at d h = inl h
  all_dart (x ∷ xs) at d h = ⊎_elim
      (λ k. inr (x, inl refl, (branch_dart x (at x (inl refl)) d k).1))
      (λ k. ⊎_elim inl (λ f. inr (f.0, inr f.1, f.2)) (all_dart xs (λ y m. at y (inr m)) d k))
      (Has-append_cases d (flat (closed_lists (branch x))) (darts_of xs) h)

  -- none stands twice
  darts_of-Distinct : (xs : List ℕ) → ((x : ℕ) → Has x xs → IsDartOf r u x) → Distinct xs → Distinct (darts_of xs)
  darts_of-Distinct [] at once = free-Distinct
  darts_of-Distinct (x ∷ xs) at once =
      Distinct-append (flat (closed_lists (branch x))) (darts_of xs) (branch-Distinct x (at x (inl refl)))
      (darts_of-Distinct xs (λ y h. at y (inr h)) once.1)
      (λ d h. Lacks-from d (darts_of xs) (λ k.
      let mine : part d ≡ part x = (branch_dart x (at x (inl refl)) d h).1 in
      ⊎_elim
      (λ f. false≢true (sym (free_dart d f).1 ∙ ap entered mine ∙ test.yes x (at x (inl refl))))
      (λ f. has_lacks x xs
      (subst (λ y. Has y xs)
      (sym (parts.one_each x f.0 (at x (inl refl)) (at f.0 (inr f.1)) (sym mine ∙ f.2))) f.1) once.0)
      (all_dart xs (λ y m. at y (inr m)) d k)))

  -- each has both darts of its edges
  branches-HasTwins : (xs : List ℕ) → ((x : ℕ) → Has x xs → IsDartOf r u x) → EachBranch HasTwins (bs xs)
  branches-HasTwins [] at = tt
  branches-HasTwins (x ∷ xs) at = (branch-HasTwins x (at x (inl refl)), branches-HasTwins xs (λ y h. at y (inr h)))

  -- each is a branch of the map
  branch-IsBranchOf : (x : ℕ) → IsDartOf r u x → IsBranchOf n (lists u) (lists v) (map lists others) (branch x)
  branch-IsBranchOf x at =
      let c : ℕ = part x in
      let found = ends_turn part c ws ws-Distinct ends in
      let q : ℕ = found.0 in
      let keep : ℕ → Bool = part_or part c q in
      let held : ℕ → Bool = λ d. entered (part d) in
      let at_q = ws_are q found.1 in
      let beyond : (y : ℕ) × IsDartOf r u y × (part y ≡ part q) = test.from q at_q.0.within at_q.1 in
      let y : ℕ = beyond.0 in
      let kept_held : (d : ℕ) → Has d (lists v) → (held d && keep d) ≡ keep d = λ d h.
      and_weaker (held d) (keep d) (λ t. kept_entered q (ap entered refl ∙ at_q.1) x at d t) in
      let same : filter keep (filter held (lists v)) ≡ filter keep (lists v) =
      filter_twice held keep (λ d. held d && keep d) (lists v) (λ d. refl)
      ∙ filter_agree (λ d. held d && keep d) keep (lists v) kept_held in record {
        y = y;
        q = q;
        keep = keep;
        at_one = subst (λ w. Has x (lists w)) at.stands (l.own x at.within);
        other = subst (λ w. Has y (lists w)) beyond.1.stands (l.own y beyond.1.within);
        two = λ e. found.2 (sym beyond.2 ∙ ap part e);
        order = turn-trans (filter keep (lists v)) (filter keep ws) (q ∷ star_row part ws c)
            (subst (λ us. IsTurn us (filter keep ws)) same (turn-filter keep (filter held (lists v)) ws turn))
            found.3;
        linked = poles_linked r is u v ltu ltv differ number part parts c y q beyond.1 at_q.0 (sym beyond.2)
            (λ e. found.2 (sym beyond.2 ∙ e));
      }
    where
      and_weaker : (a b : Bool) → (b ≡ true → a ≡ true) → (a && b) ≡ b
      and_weaker true b weaker = refl
      and_weaker false true weaker = weaker refl
      and_weaker false false weaker = refl

      kept_entered : (q : ℕ) → entered (part q) ≡ true → (x : ℕ) → IsDartOf r u x → (d : ℕ)
          → part_or part (part x) q d ≡ true → entered (part d) ≡ true
      kept_entered q t x at_x d k = ⊎_elim
          (λ e. ap entered e ∙ test.yes x at_x)
          (λ ne. ⊎_elim (λ e. ap (λ y. entered (part y)) e ∙ t)
          (λ nq. let no : part_or part (part x) q d ≡ false = rw (ne_eqb (part d) (part x) ne, ne_eqb d q nq) refl in
          absurd (false≢true (sym no ∙ k)))
          (cases_eq d q))
          (cases_eq (part d) (part x))

  -- so are all
  branches-IsBranchOf : (xs : List ℕ) → ((x : ℕ) → Has x xs → IsDartOf r u x)
      → EachBranch (IsBranchOf n (lists u) (lists v) (map lists others)) (bs xs)
  branches-IsBranchOf [] at = tt
  branches-IsBranchOf (x ∷ xs) at =
      (branch-IsBranchOf x (at x (inl refl)), branches-IsBranchOf xs (λ y h. at y (inr h)))

  -- the heads of the branches are the darts
  heads-branches : (xs : List ℕ) → heads (bs xs) ≡ xs
  heads-branches [] = refl
  heads-branches (x ∷ xs) = ap (λ ys. x ∷ ys) (heads-branches xs)

  -- their tails are the rows of their parts
  tails-branches : (xs : List ℕ) → tails zs (bs xs) ≡ joined_rows part zs ws xs
  tails-branches [] = refl
  tails-branches (x ∷ xs) = ap (λ ys. ys ++ star_row part ws (part x)) (tails-branches xs)

  -- the lists that are of no branch can be flat
  rest_rows-CanBeFlat : HasGenusZero r → CanBeFlat n (zs ∷ free_rows)
  rest_rows-CanBeFlat zero_genus =
      rest-CanBeFlat n (next r) (λ d. not (entered (part d))) (lists u) (lists v) (map lists others)
      (map lists (filter (λ w. entered (number w)) others)) free_rows
      (poles-IsMapOf r is u v ltu ltv differ number part parts) ((system_flat r is).0 zero_genus)
      (tested-SameRings r is u v ltu ltv differ number part parts (λ w. entered (number w)))

  -- a dart of no branch is in the lists between
  free_inner : (xs : List ℕ) (d : ℕ) → Has d (flat free_rows) → Has d (flat (inners free_rows (bs xs)))
  free_inner [] d h = h
  free_inner (x ∷ xs) d h =
      let rows : List (List ℕ) = map lists (of_part number (part x) others) in
      subst (Has d) (sym (flat-append rows (inners free_rows (bs xs))))
      (Has-append_right d (flat rows) (flat (inners free_rows (bs xs))) (free_inner xs d h))

  -- so is one of the branch of one of the darts
  branch_inner : (xs : List ℕ) (x d : ℕ) → Has x xs → Has d (flat (map lists (of_part number (part x) others)))
      → Has d (flat (inners free_rows (bs xs)))
  branch_inner [] x d h k = absurd h
  branch_inner (y ∷ xs) x d h k =
      let rows : List (List ℕ) = map lists (of_part number (part y) others) in
      subst (Has d) (sym (flat-append rows (inners free_rows (bs xs))))
      (⊎_elim
      (λ e. Has-append_left d (flat rows) (flat (inners free_rows (bs xs)))
      (subst (λ z. Has d (flat (map lists (of_part number (part z) others)))) (sym e) k))
      (λ m. Has-append_right d (flat rows) (flat (inners free_rows (bs xs))) (branch_inner xs x d m k))
      h)

  -- a dart in the rows put together is one of v
  joined_are : (xs : List ℕ) (d : ℕ) → Has d (joined_rows part zs ws xs) → IsDartOf r v d
  joined_are [] d h =
      let i = l.item v d ltv (filter-Has (λ y. not (entered (part y))) d (lists v) h).0 in
      record { within = i.0; stands = i.1 }
  joined_are (x ∷ xs) d h = ⊎_elim
      (λ k. joined_are xs d k)
      (λ k. (ws_are d (filter-Has (λ y. eqb (part y) (part x)) d ws k).0).0)
      (Has-append_cases d (joined_rows part zs ws xs) (star_row part ws (part x)) h)

  -- the free darts are in them
  joined_free : (xs : List ℕ) (d : ℕ) → Has d zs → Has d (joined_rows part zs ws xs)
  joined_free [] d h = h
  joined_free (x ∷ xs) d h =
      Has-append_left d (joined_rows part zs ws xs) (star_row part ws (part x)) (joined_free xs d h)

  -- so are those of the part of one of the darts
  joined_part : (xs : List ℕ) (x d : ℕ) → Has x xs → Has d ws → part d ≡ part x → Has d (joined_rows part zs ws xs)
  joined_part [] x d h k same = absurd h
  joined_part (y ∷ xs) x d h k same = ⊎_elim
      (λ e. Has-append_right d (joined_rows part zs ws xs) (star_row part ws (part y))
      (Has-filter (λ z. eqb (part z) (part y)) d ws k (eq-eqb (part d) (part y) (same ∙ ap part (sym e)))))
      (λ m. Has-append_left d (joined_rows part zs ws xs) (star_row part ws (part y)) (joined_part xs x d m k same))
      h

  -- an order of the darts of u, where the system has genus zero
  module _ (order : List ℕ) (arr : Arranges r.at u order) (zero_genus : HasGenusZero r) where
    -- the order has darts of u
    order_at : (x : ℕ) → Has x order → IsDartOf r u x
    order_at x h =
        let k = (Exactly-Has (darts r) (λ d. eqb (vertex_of r d) u) order arr x).0 h in
        record { within = k.0; stands = eqb-true (vertex_of r x) u k.1 }

    -- all of them
    order_has : (x : ℕ) → IsDartOf r u x → Has x order
    order_has x at =
        (Exactly-Has (darts r) (λ d. eqb (vertex_of r d) u) order arr x).1
        (at.within, eq-eqb (vertex_of r x) u at.stands)

    -- the list of v
    abbrev row : List ℕ
    row = permuted_row r v part entered ws order

    -- the lists put together
    abbrev rows : List (List ℕ)
    rows = heads (bs order) ∷ tails zs (bs order) ∷ inners free_rows (bs order)

    -- they can be flat
    rows-CanBeFlat : CanBeFlat n rows
    rows-CanBeFlat =
        permuted_branches-CanBeFlat n (next r) (lists u) (lists v) zs (map lists others) free_rows (bs order)
        (poles-IsMapOf r is u v ltu ltv differ number part parts) ((system_flat r is).0 zero_genus)
        (branches-IsBranchOf order order_at) (branches-HasTwins order order_at)
        (darts_of-Distinct order order_at (Exactly-Distinct (darts r) (λ d. eqb (vertex_of r d) u) order arr))
        (rest_rows-CanBeFlat zero_genus)

    -- the row has each dart of v
    row_has : (d : ℕ) → IsDartOf r v d → Has d row
    row_has d at = ⊎_elim
        (λ t. let f : (x : ℕ) × IsDartOf r u x × (part x ≡ part d) = test.from d at.within t in
        joined_part order f.0 d (order_has f.0 f.1) (ws_have d at t) (sym f.2))
        (λ f. joined_free order d
        (Has-filter (λ y. not (entered (part y))) d (lists v)
        (subst (λ w. Has d (lists w)) at.stands (l.own d at.within)) (not_from_false (entered (part d)) f)))
        (cases_Bool (entered (part d)))

    -- once, and nothing else
    pub row-Arranges : Arranges r.at v row
    row-Arranges = Exactly-from (darts r) (λ d. eqb (vertex_of r d) v) row
        (subst Distinct (tails-branches order)
        (Distinct-append_left (tails zs (bs order)) (flat (inners free_rows (bs order)))
        (Distinct-append_right (heads (bs order)) (tails zs (bs order) ++ flat (inners free_rows (bs order)))
        rows-CanBeFlat.1.once)))
        (λ d h. let at = joined_are order d h in (at.within, eq-eqb (vertex_of r d) v at.stands))
        (λ d lt t. row_has d (record { within = lt; stands = eqb-true (vertex_of r d) v t }))

    -- a dart between is in the lists between
    between_inner : (d : ℕ) → d < darts r → vertex_of r d ≢ u → vertex_of r d ≢ v
        → Has d (flat (inners free_rows (bs order)))
    between_inner d lt nu nv =
        let w : ℕ = vertex_of r d in
        let h : Has w others = others_have r is u v ltu ltv differ number part parts w (is.placed d lt) nu nv in
        let same : part d ≡ number w = parts.inner d lt nu nv in
        ⊎_elim
        (λ t. let f : (x : ℕ) × IsDartOf r u x × (part x ≡ part d) = test.from d lt t in
        branch_inner order f.0 d (order_has f.0 f.1)
        (named_item lists (of_part number (part f.0) others) w d
        (Has-filter (λ y. eqb (number y) (part f.0)) w others h
        (eq-eqb (number w) (part f.0) (sym same ∙ sym f.2))) (l.own d lt)))
        (λ f. free_inner order d
        (named_item lists free w d
        (Has-filter (λ y. not (entered (number y))) w others h
        (not_from_false (entered (number w)) (ap entered (sym same) ∙ f))) (l.own d lt)))
        (cases_Bool (entered (part d)))

    -- each dart is in one of the lists
    each_dart : (d : ℕ) → d < darts r → Has d (flat rows)
    each_dart d lt =
        let tails_and : List ℕ = tails zs (bs order) ++ flat (inners free_rows (bs order)) in
        ⊎_elim
        (λ e. Has-append_left d (heads (bs order)) tails_and
        (subst (Has d) (sym (heads-branches order)) (order_has d (record { within = lt; stands = e }))))
        (λ nu. Has-append_right d (heads (bs order)) tails_and (⊎_elim
        (λ e. Has-append_left d (tails zs (bs order)) (flat (inners free_rows (bs order)))
        (subst (Has d) (sym (tails-branches order)) (row_has d (record { within = lt; stands = e }))))
        (λ nv. Has-append_right d (tails zs (bs order)) (flat (inners free_rows (bs order)))
        (between_inner d lt nu nv))
        (cases_eq (vertex_of r d) v)))
        (cases_eq (vertex_of r d) u)

    -- a system with the same graph whose lists are those of r but at the poles
    module _ (s : System) (is_s : IsRotation s) (made : IsPermutedAt r u v order s) (second : list_of s v ≡ row) where
      -- the lists of the system after have the darts of their vertices
      ls : Listed s.vertices (darts s) (vertex_of s) (list_of s)
      ls = Listed-system s is_s

      -- it has as many darts
      size : darts s ≡ darts r
      size = ap length made.at

      -- the list of a vertex is a ring
      ring_s : (w : ℕ) → w < r.vertices → Ring (next s) (list_of s w)
      ring_s w lt =
          let lts : w < s.vertices = subst (λ m. w < m) (sym made.vertices) lt in record {
            distinct = ls.distinct w lts;
            along = λ d k. let i = ls.item w d lts k in
                next-follow s is_s d i.0 ∙ ap (λ x. follow (list_of s x) d) i.1;
          }

      -- so are those of some vertices between
      between_rings : (p : ℕ → Bool) → Rings (next s) (map lists (filter p others))
      between_rings p = rings_of_names (vertex_of r) lists (next s) (filter p others) (λ w h.
          let o = others_are r is u v ltu ltv differ number part parts w (filter-Has p w others h).0 in
          subst (Ring (next s)) (made.others w o.0 o.1 o.2) (ring_s w o.0))

      -- and the lists between
      inner_rings : (xs : List ℕ) → Rings (next s) (inners free_rows (bs xs))
      inner_rings [] = between_rings (λ w. not (entered (number w)))
      inner_rings (x ∷ xs) =
          Rings-append (next s) (map lists (of_part number (part x) others)) (inners free_rows (bs xs))
          (between_rings (λ w. eqb (number w) (part x))) (inner_rings xs)

      -- the map of the system has these lists
      rows-IsMapOf : IsMapOf (2 * n) (next s) rows
      rows-IsMapOf = record {
        once = rows-CanBeFlat.1.once;
        below = rows-CanBeFlat.1.below;
        rings = (
          subst (Ring (next s)) (made.first ∙ sym (heads-branches order)) (ring_s u ltu),
          (
            subst (Ring (next s)) (second ∙ sym (tails-branches order)) (ring_s v ltv),
            inner_rings order,
          ),
        );
        loose = λ d lt lacks.
            absurd (has_lacks d (flat rows) (each_dart d (subst (λ m. d < m) (sym is.paired) lt)) lacks);
      }

      -- so it has genus zero
      pub permuted-HasGenusZero : HasGenusZero s
      permuted-HasGenusZero =
          (system_flat s is_s).1
          (subst (λ m. IsFlat m (next s)) (sym (ap (λ m. m / 2) size))
          (CanBeFlat-IsFlat n (next s) rows rows-IsMapOf rows-CanBeFlat))
