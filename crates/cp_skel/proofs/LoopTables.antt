-- The darts of loops at each node, loop by loop.
use Rattle.std.proofs.Common.{◌≡◌, ◌≢◌, ℕ, ◌%◌, ◌+◌, ◌*◌, ◌<◌, Bool, true, List, [], ◌∷◌, ◌++◌, length, map, sym, refl, ap, ◌∙◌, ⊎_elim, arith}
use Rattle.std.specs.Prelude.{eqb, slice_index_or, slice_set, ◌&&◌}
use Rattle.std.proofs.lemmas.Bool.{and_from, and_parts, cases_Bool, cases_eq, cond-false, cond-true, eq-eqb, eqb-true}
use Rattle.std.proofs.lemmas.List.{append-nil, get_or-set_other, get_or-set_same, length-set, map-append}
use Rattle.cp_cgraph.specs.Clustered.{Clustered, nodes, source, target}
use Rattle.cp_faces.specs.Twins.{twin}
use Rattle.cp_faces.proofs.Twins.{twin_even}
use Rattle.cp_skel.specs.LoopLists.{loop_darts}
use Rattle.cp_skel.specs.SkeletonTables.{AreEmpty, AreLoopsTold, first_loops}
use Rattle.cp_skel.proofs.GatheredLists.{kept_more}

-- the darts of one loop more
loop_darts-more : (xs : List ℕ) (x : ℕ) → loop_darts (xs ++ x ∷ []) ≡ (loop_darts xs ++ x ∷ []) ++ twin x ∷ []
loop_darts-more [] x = refl
loop_darts-more (y ∷ xs) x = ap (λ (zs : List ℕ). y ∷ twin y ∷ zs) (loop_darts-more xs x)

-- no edge has been looked at
pub AreLoopsTold-none : (g : Clustered) (lists : List (List ℕ)) → AreEmpty (nodes g) lists → AreLoopsTold g 0 lists
AreLoopsTold-none g lists empty = record { size = empty.size; each = empty.each }

-- the loops at a node with one more
loops-yes : (g : Clustered) (e v : ℕ) → source g e ≡ v → target g e ≡ v
    → loop_darts (map (λ x. 2 * x) (first_loops g (e + 1) v))
    ≡ (loop_darts (map (λ x. 2 * x) (first_loops g e v)) ++ (2 * e) ∷ []) ++ (2 * e + 1) ∷ []
loops-yes g e v s t =
    let double : ℕ → ℕ = λ x. 2 * x in
    let old : List ℕ = map (λ x. 2 * x) (first_loops g e v) in
    let test : Bool = eqb (source g e) v && eqb (target g e) v in
    let passes : (eqb (source g e) v && eqb (target g e) v) ≡ true =
    and_from (eqb (source g e) v) (eqb (target g e) v) (eq-eqb (source g e) v s) (eq-eqb (target g e) v t) in
    ap (λ (xs : List ℕ). loop_darts (map (λ x. 2 * x) xs))
    (kept_more (λ x. eqb (source g x) v && eqb (target g x) v) e
    ∙ ap (λ (xs : List ℕ). first_loops g e v ++ xs) (cond-true test (e ∷ []) [] passes))
    ∙ ap loop_darts (map-append double (first_loops g e v) (e ∷ []))
    ∙ loop_darts-more old (2 * e)
    ∙ ap (λ (d : ℕ). (loop_darts old ++ (2 * e) ∷ []) ++ d ∷ []) (twin_even (2 * e) (let h : 2 * e % 2 ≡ 0 =
    omega arith in h))

-- and the same where it is not at the node
loops-no : (g : Clustered) (e v : ℕ) → (source g e ≡ v → target g e ≡ v → ⊥)
    → loop_darts (map (λ x. 2 * x) (first_loops g (e + 1) v)) ≡ loop_darts (map (λ x. 2 * x) (first_loops g e v))
loops-no g e v not_both =
    let test : Bool = eqb (source g e) v && eqb (target g e) v in
    ap (λ (xs : List ℕ). loop_darts (map (λ x. 2 * x) xs))
    (kept_more (λ x. eqb (source g x) v && eqb (target g x) v) e
    ∙ ⊎_elim
    (λ yes_it.
    let two = and_parts (eqb (source g e) v) (eqb (target g e) v) yes_it in
    absurd (not_both (eqb-true (source g e) v two.0) (eqb-true (target g e) v two.1)))
    (λ not_it.
    ap (λ (xs : List ℕ). first_loops g e v ++ xs) (cond-false test (e ∷ []) [] not_it)
    ∙ append-nil (first_loops g e v))
    (cases_Bool test))

-- the two darts of a loop are added
pub AreLoopsTold-loop : (g : Clustered) (e : ℕ) (lists mid new : List (List ℕ)) → AreLoopsTold g e lists
    → source g e < nodes g → source g e ≡ target g e
    → mid ≡ slice_set lists (source g e) (slice_index_or lists (source g e) [] ++ (2 * e) ∷ [])
    → new ≡ slice_set mid (source g e) (slice_index_or mid (source g e) [] ++ (2 * e + 1) ∷ [])
    → AreLoopsTold g (e + 1) new
AreLoopsTold-loop g e lists mid new are node loop is_mid is_new =
    let s : ℕ = source g e in
    let first : List ℕ = slice_index_or lists (source g e) [] ++ (2 * e) ∷ [] in
    let second : List ℕ = slice_index_or mid (source g e) [] ++ (2 * e + 1) ∷ [] in
    let size_mid : length mid ≡ nodes g = ap length is_mid ∙ length-set lists s first ∙ are.size in
    record {
      size = ap length is_new ∙ length-set mid s second ∙ size_mid;
      each = λ v within.
          ap (λ (ls : List (List ℕ)). slice_index_or ls v []) is_new
          ∙ ⊎_elim
          (λ same.
          ap (λ (j : ℕ). slice_index_or (slice_set mid s second) j []) (sym same)
          ∙ get_or-set_same mid s second [] (omega (arith, node, size_mid))
          ∙ ap (λ (xs : List ℕ). xs ++ (2 * e + 1) ∷ [])
          (ap (λ (ls : List (List ℕ)). slice_index_or ls s []) is_mid
          ∙ get_or-set_same lists s first [] (omega (arith, node, are.size))
          ∙ ap (λ (j : ℕ). slice_index_or lists j [] ++ (2 * e) ∷ []) same
          ∙ ap (λ (xs : List ℕ). xs ++ (2 * e) ∷ []) (are.each v within))
          ∙ sym (loops-yes g e v same (sym loop ∙ same)))
          (λ ne.
          get_or-set_other mid s v second [] (λ z. ne (sym z))
          ∙ ap (λ (ls : List (List ℕ)). slice_index_or ls v []) is_mid
          ∙ get_or-set_other lists s v first [] (λ z. ne (sym z))
          ∙ are.each v within
          ∙ sym (loops-no g e v (λ at no_more. ne at)))
          (cases_eq s v);
    }

-- another edge is not
pub AreLoopsTold-other : (g : Clustered) (e : ℕ) (lists : List (List ℕ)) → AreLoopsTold g e lists
    → source g e ≢ target g e → AreLoopsTold g (e + 1) lists
AreLoopsTold-other g e lists are differ = record {
  size = are.size;
  each = λ v within. are.each v within ∙ sym (loops-no g e v (λ s t. differ (s ∙ sym t)));
}
