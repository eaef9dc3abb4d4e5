-- The edges of one vertex are taken one by one to edges of another: where this goes to the end, the two are a bond.
use Rattle.std.proofs.Common.{◌≡◌, ◌≢◌, ℕ, ◌+◌, ◌<◌, List, [], ◌∷◌, ◌++◌, length, map, take, set, slice_index, sym, refl, ap, ◌∙◌, subst, inl, inr, ⊎_elim, arith}
use Rattle.std.specs.Prelude.{Option, Some, None, replicate}
use Rattle.std.specs.List.{Contains}
use Rattle.std.proofs.lemmas.Bool.{cases_eq, cases_lt}
use Rattle.std.proofs.lemmas.List.{get_or_default, get_or_past, get_or-replicate, get_or-set_same, get_or-set_other, length-replicate, length-set, map-append, take_all, take_more}
use Rattle.std.proofs.lemmas.List.Elements.{All-contains, All-nil, All-push, Contains-append_cases, Contains-append_left, Contains-append_right, Contains-get_or}
use Rattle.cp_lists.specs.CyclicLists.{Distinct}
use Rattle.cp_lists.proofs.DistinctLists.{Distinct-once}
use Rattle.cp_lists.proofs.FilteredLists.{filter-Distinct}
use Rattle.cp_orbits.proofs.ClassLabels.{Contains-head, Contains-cons_cases}
use Rattle.cp_conn.specs.Bonds.{ConnectedWithout, IsBond, GoesOn}
use Rattle.cp_conn.specs.NamedGraphs.{NamedGraph, edges_at, ends_at, far}
use Rattle.cp_conn.proofs.Bonds.{ConnectedWithout-second}
use Rattle.cp_conn.proofs.NamedGraphs.{map_from}
use Rattle.cp_poles.specs.Between.{AreEntries, AreNumbersBetween, AreTaken, IsAlongBond, entry, number_of}
use Rattle.cp_poles.proofs.FoundItems.{None-other, Some-same}

-- a table without entries
entry-none : (n p : ℕ) → entry (replicate n None) p ≡ None
entry-none n p = ⊎_elim
    (λ (l : p < n). get_or-replicate n p None None l)
    (λ g. get_or_past (replicate n None) p None (omega (arith, g, length-replicate {A = Option ℕ} n None)))
    (cases_lt p n)

-- before the first edge
pub AreEntries-none : (g : NamedGraph) (v : ℕ) (numbers : List ℕ) (n : ℕ) → n ≡ length numbers
    → AreEntries g v numbers [] (replicate n None)
AreEntries-none g v numbers n size = record {
  one_each = length-replicate n None ∙ size;
  from = λ p f at. absurd (None-other f (sym (entry-none n p) ∙ at));
  all = λ f c. absurd (omega (arith, c.1));
}

-- one edge more
pub AreEntries-more : (g : NamedGraph) (v : ℕ) (numbers es : List ℕ) (table : List (Option ℕ)) (e part : ℕ)
    → AreEntries g v numbers es table → part ≡ number_of g numbers (far g v e) → part < length numbers
    → AreEntries g v numbers (es ++ e ∷ []) (set table part (Some e))
AreEntries-more g v numbers es table e part are is lt = record {
  one_each = length-set table part (Some e) ∙ are.one_each;
  from = λ p f at. ⊎_elim
      (λ same.
      let one : e ≡ f = Some-same e f (sym here ∙ ap (entry (set table part (Some e))) (sym same) ∙ at) in (
        subst (Contains (es ++ e ∷ [])) one (Contains-append_right es (e ∷ []) e (Contains-head e [])),
        ap (λ k. number_of g numbers (far g v k)) (sym one) ∙ sym is ∙ sym same,
      ))
      (λ other.
      let old = are.from p f (sym (get_or-set_other table part p (Some e) None other) ∙ at) in
      (Contains-append_left es (e ∷ []) f old.0, old.1))
      (cases_eq p part);
  all = λ f c none. ⊎_elim
      (λ same. None-other e (sym none ∙ ap (entry (set table part (Some e))) same ∙ here))
      (λ other. ⊎_elim
      (λ old. are.all f old (sym (get_or-set_other table part (number_of g numbers (far g v f)) (Some e) None other)
      ∙ none))
      (λ new. ⊎_elim
      (λ one. other (ap (λ k. number_of g numbers (far g v k)) (sym one) ∙ sym is))
      (λ rest. omega (arith, rest.1))
      (Contains-cons_cases e f [] new))
      (Contains-append_cases es (e ∷ []) f c))
      (cases_eq (number_of g numbers (far g v f)) part);
}
  where
    here : entry (set table part (Some e)) part ≡ Some e
    here = get_or-set_same table part (Some e) None (omega (arith, lt, are.one_each))

-- numbers of components between two vertices
module _ (g : NamedGraph) (u v : ℕ) (numbers : List ℕ) (are : AreNumbersBetween g u v numbers) (differ : u ≢ v)
    (live : (w e : ℕ) → Contains (edges_at g w) e → Contains g.verts (far g w e)) (once : Distinct g.edges)
    (no_loop : (w e : ℕ) → Contains (edges_at g w) e → far g w e ≢ w) (cv : Contains g.verts v) where
  -- the edges of u
  abbrev es : List ℕ
  es = edges_at g u

  -- the edge of u at a place
  abbrev at : ℕ → ℕ
  at j = slice_index es j

  -- the number of the component that an edge of a vertex enters
  abbrev part : ℕ → ℕ → ℕ
  part w e = number_of g numbers (far g w e)

  -- the edge at a place is one
  at_in : (j : ℕ) → j < length es → Contains es (at j)
  at_in j lt = Contains-get_or es j 0 lt

  -- no edge stands at two places
  at_once : (j l : ℕ) → j < length es → l < length es → at j ≡ at l → j ≡ l
  at_once j l lj ll e = Distinct-once es (filter-Distinct (ends_at g u) g.edges once) j l lj ll e

  -- edges of one number enter one component
  same_part : (e w f : ℕ) → Contains es e → Contains (edges_at g w) f → part u e ≡ part w f
      → ConnectedWithout g u v (far g u e) (far g w f)
  same_part e w f ce cf same = (are.tells (far g u e) (far g w f) (live u e ce) (live w f cf)).0 same

  -- edges that enter one component have one number
  part_same : (e w f : ℕ) → Contains es e → Contains (edges_at g w) f → ConnectedWithout g u v (far g u e) (far g w f)
      → part u e ≡ part w f
  part_same e w f ce cf c = (are.tells (far g u e) (far g w f) (live u e ce) (live w f cf)).1 c

  -- before the first edge
  pub AreTaken-none : (table : List (Option ℕ)) → AreEntries g v numbers (edges_at g v) table
      → AreTaken g u v numbers 0 table []
  AreTaken-none table all = record {
    one_each = all.one_each;
    edges = refl;
    onward = All-nil (λ x. GoesOn g u v x.0 x.1);
    left = λ p f is. let k = all.from p f is in (k.0, k.1, λ j lt. absurd (omega arith));
    gone = λ f c none. absurd (all.all f c none);
    apart = λ j l lj. absurd (omega arith);
  }

  -- after k edges
  module _ (k : ℕ) (table : List (Option ℕ)) (along : List (ℕ × ℕ)) (so : AreTaken g u v numbers k table along) where
    -- the edges so far with the next
    more_edges : (f : ℕ) → k < length es → map (λ x. x.0) (along ++ (at k, f) ∷ []) ≡ take (k + 1) es
    more_edges f lt =
        map-append (λ (x : ℕ × ℕ). x.0) along ((at k, f) ∷ []) ∙ ap (λ zs. zs ++ at k ∷ []) so.edges
        ∙ sym (take_more es k 0 lt)

    -- a place below the next is an earlier one or the last
    earlier : (j : ℕ) → j < k + 1 → j ≢ k → j < k
    earlier j lt ne = omega (arith, lt, ne)

    -- an edge that ends at v goes on as itself
    pub AreTaken-direct : k < length es → far g u (at k) ≡ v
        → AreTaken g u v numbers (k + 1) table (along ++ (at k, at k) ∷ [])
    AreTaken-direct lt ends = record {
      one_each = so.one_each;
      edges = more_edges (at k) lt;
      onward = All-push (λ x. GoesOn g u v x.0 x.1) along (at k, at k) so.onward (inl (ends, refl));
      left = λ p f is. let h = so.left p f is in (
        h.0,
        h.1,
        λ j lj off. ⊎_elim (λ last. absurd (off (ap (λ i. far g u (at i)) last ∙ ends)))
            (λ ne. h.2 j (earlier j lj ne) off) (cases_eq j k),
      );
      gone = λ f c none. let h = so.gone f c none in (h.0, omega (arith, h.1), h.2, h.3);
      apart = λ j l lj ll oj ol same. ⊎_elim
          (λ last. absurd (oj (ap (λ i. far g u (at i)) last ∙ ends)))
          (λ nj. ⊎_elim
          (λ last. absurd (ol (ap (λ i. far g u (at i)) last ∙ ends)))
          (λ nl. so.apart j l (earlier j lj nj) (earlier l ll nl) oj ol same)
          (cases_eq l k))
          (cases_eq j k);
    }

    -- an edge that enters a component goes on as the edge that the table has for it
    pub AreTaken-through : (p f : ℕ) → k < length es → far g u (at k) ≢ v → p ≡ part u (at k) → p < length numbers
        → entry table p ≡ Some f → AreTaken g u v numbers (k + 1) (set table p None) (along ++ (at k, f) ∷ [])
    AreTaken-through p f lt off is low has = record {
      one_each = length-set table p None ∙ so.one_each;
      edges = more_edges f lt;
      onward = All-push (λ x. GoesOn g u v x.0 x.1) along (at k, f) so.onward
          (inr (off, mine.0, same_part (at k) v f (at_in k lt) mine.0 (sym is ∙ sym mine.1)));
      left = λ q h has_q. ⊎_elim
          (λ same. absurd (None-other h (sym emptied ∙ ap (entry (set table p None)) (sym same) ∙ has_q)))
          (λ other.
          let old = so.left q h (sym (get_or-set_other table p q None None other) ∙ has_q) in (
            old.0,
            old.1,
            λ j lj oj e. ⊎_elim
                (λ last. other (sym e ∙ ap (λ i. part u (at i)) last ∙ sym is))
                (λ ne. old.2 j (earlier j lj ne) oj e)
                (cases_eq j k),
          ))
          (cases_eq q p);
      gone = λ h c none. ⊎_elim
          (λ same. (k, omega arith, off, sym is ∙ sym same))
          (λ other.
          let old = so.gone h c (sym (get_or-set_other table p (part v h) None None other) ∙ none) in
          (old.0, omega (arith, old.1), old.2, old.3))
          (cases_eq (part v h) p);
      apart = λ j l lj ll oj ol same. ⊎_elim
          (λ last_j. ⊎_elim
          (λ last_l. last_j ∙ sym last_l)
          (λ nl. absurd (mine.2 l (earlier l ll nl) ol
          (sym same ∙ ap (λ i. part u (at i)) last_j ∙ sym is)))
          (cases_eq l k))
          (λ nj. ⊎_elim
          (λ last_l. absurd (mine.2 j (earlier j lj nj) oj
          (same ∙ ap (λ i. part u (at i)) last_l ∙ sym is)))
          (λ nl. so.apart j l (earlier j lj nj) (earlier l ll nl) oj ol same)
          (cases_eq l k))
          (cases_eq j k);
    }
      where
        mine : Contains (edges_at g v) f × (part v f ≡ p)
            × ((j : ℕ) → j < k → far g u (at j) ≢ v → part u (at j) ≢ p)
        mine = so.left p f has

        emptied : entry (set table p None) p ≡ None
        emptied = get_or-set_same table p None None (omega (arith, low, so.one_each))

    -- where the table has no edge for it, the two are no bond
    pub AreTaken-stuck : (p : ℕ) → k < length es → far g u (at k) ≢ v → p ≡ part u (at k) → entry table p ≡ None
        → IsBond g u v → ⊥
    AreTaken-stuck p lt off is none bond =
        let to = bond.reach (at k) (at_in k lt) off in
        let same : part u (at k) ≡ part v to.0 = part_same (at k) v to.0 (at_in k lt) to.1 to.2 in
        let gone = so.gone to.0 to.1 (ap (entry table) (sym same ∙ sym is) ∙ none) in
        let lj : gone.0 < length es = omega (arith, gone.1, lt) in
        let joined : ConnectedWithout g u v (far g u (at gone.0)) (far g u (at k)) =
        same_part (at gone.0) u (at k) (at_in gone.0 lj) (at_in k lt) (gone.3 ∙ sym same) in
        let one : gone.0 ≡ k =
        at_once gone.0 k lj lt (bond.one_each (at gone.0) (at k) (at_in gone.0 lj) (at_in k lt) gone.2 joined) in
        omega (arith, one, gone.1)

    -- where all edges of u go on, they are a bond
    pub AreTaken-all : k ≡ length es → IsAlongBond g u v along
    AreTaken-all size = record {
      bond = record {
        differ = differ;
        no_loop = λ e c. no_loop u e c;
        one_each = λ e f ce cf off c.
            let je = place_of e ce in
            let jf = place_of f cf in
            let off_f : far g u f ≢ v =
            λ ends. off (ConnectedWithout-second g u v (far g u e)
            (subst (ConnectedWithout g u v (far g u e)) ends c)) in
            let same : je.0 ≡ jf.0 =
            so.apart je.0 jf.0 (omega (arith, je.1, size)) (omega (arith, jf.1, size))
            (λ ends. off (ap (far g u) (sym je.2) ∙ ends)) (λ ends. off_f (ap (far g u) (sym jf.2) ∙ ends))
            (ap (part u) je.2 ∙ part_same e u f ce cf c ∙ ap (part u) (sym jf.2)) in
            sym je.2 ∙ ap at same ∙ jf.2;
        reach = λ e c off.
            let x = map_from (λ (y : ℕ × ℕ). y.0) along e (subst (λ zs. Contains zs e) (sym all_edges) c) in
            let on : GoesOn g u v e x.0.1 =
            subst (λ z. GoesOn g u v z x.0.1) x.2
            (All-contains (λ y. GoesOn g u v y.0 y.1) along x.0 so.onward x.1) in
            ⊎_elim (λ h. absurd (off h.0)) (λ h. (x.0.1, h.1, h.2)) on;
      };
      edges = all_edges;
      onward = so.onward;
    }
      where
        all_edges : map (λ x. x.0) along ≡ es
        all_edges = so.edges ∙ take_all k es (omega (arith, size))

        place_of : (e : ℕ) → Contains es e → (j : ℕ) × (j < length es) × (at j ≡ e)
        place_of e c = (c.0, c.1, get_or_default es c.0 0 e c.1 ∙ c.2)
