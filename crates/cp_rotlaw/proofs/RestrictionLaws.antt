-- Restrictions of rotation systems to some of their edges: that there are such, that they are one but for the numbers
-- of the edges, and that they keep genus zero.
use Rattle.std.proofs.Common.{◌≡◌, ℕ, zero, suc, ◌+◌, ◌-◌, ◌*◌, ◌/◌, ◌%◌, ◌<◌, ◌≤◌, Bool, true, false, not, ◌&&◌, ◌||◌, ltb, eqb, List, [], ◌∷◌, map, sym, refl, ap, ap₂, ◌∙◌, subst, ⊎_elim, arith}
use Rattle.std.specs.List.{filter}
use Rattle.std.proofs.lemmas.Bool.{cases_Bool, cases_eq, cases_lt, eq-eqb, ne_eqb, lt-ltb, le-ltb, cond-true, cond-false, or_right, false≢true}
use Rattle.cp_orbits.specs.Orbits.{exchange, Renumbers}
use Rattle.cp_lists.specs.CyclicLists.{follow}
use Rattle.cp_faces.specs.Faces.{on_edges}
use Rattle.cp_orbits.proofs.OrbitLaws.{exchange_left, exchange_other, exchange_case, exchange-exchange, exchange-below}
use Rattle.cp_faces.proofs.Renaming.{Renumbers-on_edges}
use Rattle.cp_rot.specs.Systems.{System, IsRotation, edges, vertex_of, list_of, next}
use Rattle.cp_faces.specs.Twins.{twin}
use Rattle.cp_rot.specs.Genus.{HasGenusZero}
use Rattle.cp_rot.specs.Rewrites.{renumbered, without_edge, deleted}
use Rattle.cp_rotlaw.specs.Restrictions.{split_off}
use Rattle.cp_rot.specs.Laws.{IsRenamed}
use Rattle.cp_rotlaw.specs.Restrictions.{IsRestricted, restricted, MeetAt}
use Rattle.cp_faces.proofs.Twins.{twin_even, twin_odd}
use Rattle.cp_rot.proofs.Functions.{faces_of, components_of, FaceCount-faces, ComponentCount-components, zero_counts, HasGenusZero-from}
use Rattle.cp_rot.proofs.ListSystems.{Listed-edges, system_list}
use Rattle.cp_rot.proofs.DeletedEdges.{IsRotation-deleted, deleted-edges, deleted_at}
use Rattle.cp_rot.proofs.LawCounts.{renamed_counts}
use Rattle.cp_lists.proofs.FilteredLists.{filter_all, filter_agree, map_filtered}
use Rattle.cp_lists.proofs.Choices.{same_size}
use Rattle.cp_rotlaw.proofs.RestrictedSystems.{on_edges_half, on_edges_bit, on_edges-chain, kept_list, old_kept, new_kept, restricted_stand, restricted_zero, kept_item, kept_follow, restricted_next}
use Rattle.cp_rotlaw.proofs.SplitParts.{split_by_parts}

-- a system with new numbers has genus zero where the old one has
pub renamed-HasGenusZero : (r s : System) (h back k undo : ℕ → ℕ) → IsRotation r → IsRotation s
    → IsRenamed r s h back k undo → HasGenusZero r → HasGenusZero s
renamed-HasGenusZero r s h back k undo is is' ren z =
    let same = renamed_counts r s h back k undo is is' ren (faces_of r) (components_of r) (faces_of s) (components_of s) (FaceCount-faces r is) (ComponentCount-components r is) (FaceCount-faces s is') (ComponentCount-components s is') in
    HasGenusZero-from s is' (omega (arith, zero_counts r is z, same.0, same.1, ren.vertices, ren.size))

-- some numbers tell that s is r with the edges alone that the test keeps
abbrev pub Restricts : System → System → (ℕ → Bool) → Type 0
Restricts r s keeps = (number : ℕ → ℕ) × (original : ℕ → ℕ) × IsRestricted r s keeps number original

-- new numbers that are the old ones change no list
map_same : (t : ℕ → ℕ) (xs : List ℕ) → ((d : ℕ) → t d ≡ d) → map t xs ≡ xs
map_same t [] same = refl
map_same t (x ∷ xs) same = ap₂ (λ (y : ℕ) (ys : List ℕ). y ∷ ys) (same x) (map_same t xs same)

-- all edges kept
all_kept : (r : System) → IsRestricted r r (λ e. true) (λ e. e) (λ e. e)
all_kept r = record {
  vertices = refl;
  kept = λ e lt t. (lt, refl);
  all = λ e lt. (lt, refl, refl);
  stand = λ d lt. ap (vertex_of r) (omega arith);
  lists = λ v lt. sym (ap (map (on_edges (λ e. e))) (filter_all (λ d. true) (list_of r v) (λ d h. refl)) ∙ map_same (on_edges (λ e. e)) (list_of r v) (λ d. omega arith));
}

-- tests that agree on the edges keep the same
restricted_agree : (r s : System) (k q : ℕ → Bool) (n o : ℕ → ℕ) → IsRotation r → ((e : ℕ) → e < edges r → k e ≡ q e)
    → IsRestricted r s k n o → IsRestricted r s q n o
restricted_agree r s k q n o is same res = record {
  vertices = res.vertices;
  kept = λ e lt t. res.kept e lt (same e lt ∙ t);
  all = λ e lt. let w = res.all e lt in (w.0, sym (same (o e) w.0) ∙ w.1, w.2);
  stand = res.stand;
  lists = λ v lt. res.lists v lt ∙ ap (map (on_edges n)) (filter_agree (λ d. k (d / 2)) (λ d. q (d / 2)) (list_of r v) (λ d h.
      let old = (Listed-edges r (edges r) is refl).item v d lt h in
      same (d / 2) (omega (arith, old.0))));
}

-- two tests that are both passed
both_true : (a b : Bool) → (a && b) ≡ true → (a ≡ true) × (b ≡ true)
both_true true b t = (refl, t)
both_true false b t = absurd (false≢true t)

-- some edges kept, and of those some
restricted_chain : (r s t : System) (k q : ℕ → Bool) (n o m p : ℕ → ℕ) → IsRotation s → IsRotation t
    → IsRestricted r s k n o → IsRestricted s t q m p → IsRestricted r t (λ e. k e && q (n e)) (λ e. m (n e))
    (λ e. o (p e))
restricted_chain r s t k q n o m p is_s is_t one two = record {
  vertices = two.vertices ∙ one.vertices;
  kept = λ e lt both.
      let b = both_true (k e) (q (n e)) both in
      let w = one.kept e lt b.0 in
      let x = two.kept (n e) w.0 b.1 in
      (x.0, ap o x.1 ∙ w.1);
  all = λ e lt.
      let x = two.all e lt in
      let w = one.all (p e) x.0 in
      (w.0, ap₂ (λ a b. a && b) w.1 (ap q w.2 ∙ x.1), ap m w.2 ∙ x.2);
  stand = λ d lt.
      let x = two.all (d / 2) (omega (arith, is_t.paired)) in
      two.stand d lt ∙ one.stand (on_edges p d) (omega (arith, x.0, is_s.paired)) ∙ ap (vertex_of r) (on_edges-chain o p d);
  lists = λ v lt.
      two.lists v (omega (arith, one.vertices)) ∙ ap (λ xs. map (on_edges m) (filter (λ d. q (d / 2)) xs)) (one.lists v lt)
      ∙ map_filtered (on_edges n) (on_edges m) (on_edges (λ e. m (n e))) (λ d. k (d / 2)) (λ d. q (d / 2)) (λ d. k (d / 2) && q (n (d / 2))) (list_of r v)
      (λ d. sym (on_edges-chain m n d))
      (λ d. ap (λ x. k (d / 2) && q x) (sym (on_edges_half n d)));
}

-- all edges but one kept
deleted_kept : (r : System) → IsRotation r → (e : ℕ) → e < edges r
    → IsRestricted r (deleted r e) (λ x. not (eqb x e)) (exchange e (edges r - 1)) (exchange e (edges r - 1))
deleted_kept r is e lt = record {
  vertices = refl;
  kept = λ x l t.
      let ne : (x ≡ e → ⊥) = λ h. false≢true (sym (ap not (eq-eqb x e h)) ∙ t) in (
        subst (λ n. exchange e (edges r - 1) x < n) (sym (deleted-edges r is e lt))
            (exchange_case (λ y. y < edges r - 1) e (edges r - 1) x (λ h. absurd (ne h)) (λ na h. omega arith) (λ na nb. omega arith)),
        exchange-exchange e (edges r - 1) x,
      );
  all = λ x l.
      let below : x < edges r - 1 = omega (arith, deleted-edges r is e lt) in (
        exchange-below (edges r) e (edges r - 1) x lt (omega arith) (omega arith),
        ap not (ne_eqb (exchange e (edges r - 1) x) e (λ h.
            let last : x ≡ edges r - 1 = sym (exchange-exchange e (edges r - 1) x) ∙ exchange_left e (edges r - 1) (exchange e (edges r - 1) x) h in
            omega arith)),
        exchange-exchange e (edges r - 1) x,
      );
  stand = λ d l. deleted_at r is e lt d (omega (arith, (IsRotation-deleted r is e lt).paired, deleted-edges r is e lt));
  lists = λ v l. system_list r.vertices (edges r - 1) (λ d. vertex_of r (renumbered r e d)) (λ x. map (renumbered r e) (without_edge e (list_of r x))) v l;
}

-- the test keeps e, or e is not below n
abbrev kept_upto : (ℕ → Bool) → ℕ → ℕ → Bool
kept_upto keeps n e = keeps e || not (ltb e n)

-- a test or what fails is the test
or_false : (b : Bool) → (b || false) ≡ b
or_false true = refl
or_false false = refl

-- below n the test tells
kept_low : (keeps : ℕ → Bool) (n e : ℕ) → e < n → kept_upto keeps n e ≡ keeps e
kept_low keeps n e lt = ap (λ b. keeps e || not b) (lt-ltb e n lt) ∙ or_false (keeps e)

-- the others are kept
kept_high : (keeps : ℕ → Bool) (n e : ℕ) → n ≤ e → kept_upto keeps n e ≡ true
kept_high keeps n e le = or_right (keeps e) (not (ltb e n)) (ap not (le-ltb e n le))

-- edge n is kept too
kept_same : (keeps : ℕ → Bool) (n e : ℕ) → keeps n ≡ true → kept_upto keeps n e ≡ kept_upto keeps (suc n) e
kept_same keeps n e t = ⊎_elim
    (λ l. kept_low keeps n e l ∙ sym (kept_low keeps (suc n) e (omega arith)))
    (λ h. kept_high keeps n e h ∙ sym (⊎_elim
    (λ f. kept_low keeps (suc n) e (omega arith) ∙ ap keeps f ∙ t)
    (λ nf. kept_high keeps (suc n) e (omega arith))
    (cases_eq e n)))
    (cases_lt e n)

-- edge n goes, and the last edge takes its number
kept_without : (keeps : ℕ → Bool) (n m e : ℕ) → n ≤ m → e ≤ m → keeps n ≡ false
    → (not (eqb e n) && kept_upto keeps n (exchange n m e)) ≡ kept_upto keeps (suc n) e
kept_without keeps n m e le lt f = ⊎_elim
    (λ h. ap (λ b. not b && kept_upto keeps n (exchange n m e)) (eq-eqb e n h) ∙ sym (kept_low keeps (suc n) e (omega arith) ∙ ap keeps h ∙ f))
    (λ nh. ap (λ b. not b && kept_upto keeps n (exchange n m e)) (ne_eqb e n nh) ∙ ⊎_elim
    (λ l. ap (kept_upto keeps n) (exchange_other n m e nh (λ k. omega arith)) ∙ kept_low keeps n e l ∙ sym (kept_low keeps (suc n) e (omega arith)))
    (λ g. kept_high keeps n (exchange n m e) (exchange_case (λ y. n ≤ y) n m e (λ k. le) (λ na k. omega arith) (λ na nb. g)) ∙ sym (kept_high keeps (suc n) e (omega arith)))
    (cases_lt e n))
    (cases_eq e n)

-- edges deleted one after another leave the edges that the test keeps
restricted_upto : (n : ℕ) (keeps : ℕ → Bool) (r : System) → IsRotation r → n ≤ edges r
    → IsRotation (restricted n keeps r) × Restricts r (restricted n keeps r) (kept_upto keeps n)
restricted_upto zero keeps r is le = (is, ((λ e. e), (λ e. e), restricted_agree r r (λ e. true) (kept_upto keeps zero) (λ e. e) (λ e. e) is (λ e lt. sym (kept_high keeps zero e (omega arith))) (all_kept r)))
restricted_upto (suc n) keeps r is le = ⊎_elim
    (λ t.
    let w = restricted_upto n keeps r is (omega arith) in
    subst (λ s. IsRotation (restricted n keeps s) × Restricts r (restricted n keeps s) (kept_upto keeps (suc n))) (sym (cond-true (keeps n) r (deleted r n) t))
    (w.0, (w.1.0, w.1.1, restricted_agree r (restricted n keeps r) (kept_upto keeps n) (kept_upto keeps (suc n)) w.1.0 w.1.1 is (λ e lt. kept_same keeps n e t) w.1.2)))
    (λ f.
    let is' : IsRotation (deleted r n) = IsRotation-deleted r is n (omega arith) in
    let w = restricted_upto n keeps (deleted r n) is' (omega (arith, deleted-edges r is n (omega arith))) in
    subst (λ s. IsRotation (restricted n keeps s) × Restricts r (restricted n keeps s) (kept_upto keeps (suc n))) (sym (cond-false (keeps n) r (deleted r n) f)) (
      w.0,
      (
        (λ e. w.1.0 (exchange n (edges r - 1) e)),
        (λ e. exchange n (edges r - 1) (w.1.1 e)),
        restricted_agree r (restricted n keeps (deleted r n)) (λ e. not (eqb e n) && kept_upto keeps n (exchange n (edges r - 1) e)) (kept_upto keeps (suc n)) (λ e. w.1.0 (exchange n (edges r - 1) e)) (λ e. exchange n (edges r - 1) (w.1.1 e)) is
            (λ e lt. kept_without keeps n (edges r - 1) e (omega arith) (omega arith) f)
            (restricted_chain r (deleted r n) (restricted n keeps (deleted r n)) (λ e. not (eqb e n)) (kept_upto keeps n) (exchange n (edges r - 1)) (exchange n (edges r - 1)) w.1.0 w.1.1 is' w.0 (deleted_kept r is n (omega arith)) w.1.2),
      ),
    ))
    (cases_Bool (keeps n))

-- there is a system with the edges alone that a test keeps
pub restriction_exists : (r : System) (keeps : ℕ → Bool) → IsRotation r
    → IsRotation (restricted (edges r) keeps r) × Restricts r (restricted (edges r) keeps r) keeps
restriction_exists r keeps is =
    let w = restricted_upto (edges r) keeps r is (omega arith) in
    (w.0, (w.1.0, w.1.1, restricted_agree r (restricted (edges r) keeps r) (kept_upto keeps (edges r)) keeps w.1.0 w.1.1 is (λ e lt. kept_low keeps (edges r) e lt) w.1.2))

-- new numbers of edges keep the two darts of an edge together
twin-on_edges : (p : ℕ → ℕ) (d : ℕ) → twin (on_edges p d) ≡ on_edges p (twin d)
twin-on_edges p d = ⊎_elim
    (λ e.
    let half : (d + 1) / 2 ≡ d / 2 = omega arith in
    twin_even (on_edges p d) (on_edges_bit p d ∙ e) ∙ sym (ap (on_edges p) (twin_even d e) ∙ ap (λ (x : ℕ). 2 * p x + (d + 1) % 2) half ∙ omega arith))
    (λ ne.
    let half : (d - 1) / 2 ≡ d / 2 = omega arith in
    twin_odd (on_edges p d) (λ h. ne (sym (on_edges_bit p d) ∙ h)) ∙ sym (ap (on_edges p) (twin_odd d ne) ∙ ap (λ (x : ℕ). 2 * p x + (d - 1) % 2) half ∙ omega arith))
    (cases_eq (d % 2) 0)

-- two systems restricted to the same edges
module _ (r s t : System) (is : IsRotation r) (is_s : IsRotation s) (is_t : IsRotation t) (keeps : ℕ → Bool)
    (n o m q : ℕ → ℕ) (one : IsRestricted r s keeps n o) (two : IsRestricted r t keeps m q) where
  -- the number in t of an edge of s
  there : (e : ℕ) → e < edges s → (m (o e) < edges t) × (n (q (m (o e))) ≡ e)
  there e lt =
      let w = one.all e lt in
      let k = two.kept (o e) w.0 w.1 in
      (k.0, ap n k.1 ∙ w.2)

  -- the number in s of an edge of t
  back : (e : ℕ) → e < edges t → (n (q e) < edges s) × (m (o (n (q e))) ≡ e)
  back e lt =
      let w = two.all e lt in
      let k = one.kept (q e) w.0 w.1 in
      (k.0, ap m k.1 ∙ w.2)

  -- they have as many edges
  same_edges : edges s ≡ edges t
  same_edges = same_size (edges s) (edges t) (λ e. m (o e)) (λ e. n (q e)) there back

  -- the edges have new numbers
  edge_numbers : Renumbers (edges s) (λ e. m (o e)) (λ e. n (q e))
  edge_numbers = record {
    there = λ e lt. omega (arith, (there e lt).0, same_edges);
    back = λ e lt. (back e (omega (arith, same_edges))).0;
    there_back = λ e lt. (there e lt).1;
    back_there = λ e lt. (back e (omega (arith, same_edges))).1;
  }

  -- t is s with new numbers
  pub restricted_renamed : IsRenamed s t (λ x. x) (λ x. x) (on_edges (λ e. m (o e))) (on_edges (λ e. n (q e)))
  restricted_renamed = record {
    vertices = two.vertices ∙ sym one.vertices;
    size = omega (arith, same_edges, is_s.paired, is_t.paired);
    vertex_numbers = record { there = λ x lt. lt; back = λ x lt. lt; there_back = λ x lt. refl; back_there = λ x lt. refl };
    dart_numbers = subst (λ k. Renumbers k (on_edges (λ e. m (o e))) (on_edges (λ e. n (q e)))) (sym is_s.paired) (Renumbers-on_edges (edges s) (λ e. m (o e)) (λ e. n (q e)) edge_numbers);
    twins = λ d lt. twin-on_edges (λ e. m (o e)) d;
    stand = λ d lt.
        let k = old_kept r s is is_s keeps n o one d (omega (arith, is_s.paired)) in
        let w = new_kept r t is is_t keeps m q two (on_edges o d) k.0 k.1 in
        ap (vertex_of t) (sym (on_edges-chain m o d))
        ∙ restricted_stand r t is is_t keeps m q two (on_edges m (on_edges o d)) w.0
        ∙ ap (vertex_of r) w.1
        ∙ sym (restricted_stand r s is is_s keeps n o one d (omega (arith, is_s.paired)));
    follow = λ d lt.
        let x : ℕ = on_edges o d in
        let k = old_kept r s is is_s keeps n o one d (omega (arith, is_s.paired)) in
        let y : ℕ = follow (kept_list r s is is_s keeps n o one x) x in
        let i = kept_item r s is is_s keeps n o one x y k.0 (kept_follow r s is is_s keeps n o one x k.0 k.1) in
        let w = new_kept r s is is_s keeps n o one y i.0 i.2 in
        ap (next t) (sym (on_edges-chain m o d))
        ∙ restricted_next r t is is_t keeps m q two x k.0 k.1
        ∙ ap (on_edges m) (sym w.1)
        ∙ on_edges-chain m o (on_edges n y)
        ∙ ap (on_edges (λ e. m (o e))) (sym (ap (next s) (sym k.2) ∙ restricted_next r s is is_s keeps n o one x k.0 k.1));
  }

-- a system of genus zero restricted to some of its edges has genus zero
pub restriction_zero : (r s : System) (keeps : ℕ → Bool) (number original : ℕ → ℕ) → IsRotation r → IsRotation s
    → IsRestricted r s keeps number original → HasGenusZero r → HasGenusZero s
restriction_zero r s keeps number original is is' res z =
    let w = restriction_exists r keeps is in
    renamed-HasGenusZero (restricted (edges r) keeps r) s (λ x. x) (λ x. x) (on_edges (λ e. number (w.1.1 e))) (on_edges (λ e. w.1.0 (original e))) w.0 is'
    (restricted_renamed r (restricted (edges r) keeps r) s is w.0 is' keeps w.1.0 w.1.1 number original w.1.2 res)
    (restricted_zero (edges r) keeps r is (omega arith) z).1

-- a vertex at which two sets of edges meet, split into one for each, keeps genus zero
pub split_keeps_zero : (r : System) (u : ℕ) (takes : ℕ → Bool) → IsRotation r → u < r.vertices → MeetAt r u takes
    → HasGenusZero r → HasGenusZero (split_off r u takes)
split_keeps_zero r u takes is lt meet z =
    let a = restriction_exists r (λ e. not (takes e)) is in
    let b = restriction_exists r takes is in
    (split_by_parts r is u lt takes meet (restricted (edges r) (λ e. not (takes e)) r) (restricted (edges r) takes r) a.0 b.0 a.1.0 a.1.1 b.1.0 b.1.1 a.1.2 b.1.2).1
    ((restricted_zero (edges r) (λ e. not (takes e)) r is (omega arith) z).1, (restricted_zero (edges r) takes r is (omega arith) z).1)
