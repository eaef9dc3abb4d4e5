-- A cluster and the clusters round it: the chain of its ancestors, and which clusters stand in it.
use Rattle.std.proofs.Common.{◌≡◌, ℕ, zero, suc, ◌-◌, ◌<◌, ◌≤◌, Bool, true, false, List, [], ◌∷◌, slice_index, sym, refl, ap, ◌∙◌, subst, ⊎_elim, arith}
use Rattle.std.specs.Prelude.{◌==◌, ◌||◌, ◌↔◌}
use Rattle.std.specs.List.{list_any, filter, All, AllPairs}
use Rattle.std.proofs.lemmas.Bool.{cases_lt, cases_eq, cases_order, eq-eqb, ne_eqb, false≢true, or_right, cond-false}
use Rattle.std.proofs.lemmas.List.{get_or_past}
use Rattle.std.proofs.lemmas.List.Elements.{All-nil, All-cons}
use Rattle.std.proofs.lemmas.List.Kept.{AllPairs-cons}
use Rattle.cp_cgraph.specs.Clustered.{Clustered, IsClustered, clusters, parent, home}
use Rattle.cp_cgraph.specs.Crossings.{outward, contains, IsWithin, here, inner}

-- each cluster but the root lies in one of a lower number
pub record IsLower (ps : List ℕ) : Type 0 where
  -- a parent has a lower number than its child
  pub lower : (c : ℕ) → 0 < c → slice_index ps (c - 1) < c

-- in a clustered graph parents have lower numbers
pub IsLower-clustered : (g : Clustered) → IsClustered g → IsLower g.parents
IsLower-clustered g is = record {
  lower = λ c above.
      ⊎_elim
      (λ lt. is.inside_a_lower c above lt)
      (λ ge. let past : slice_index g.parents (c - 1) ≡ 0 =
      get_or_past g.parents (c - 1) 0 (omega arith) in omega arith)
      (cases_lt c (clusters g));
}

-- a cluster and those round it, without the root, from the inside outward
abbrev pub chain : List ℕ → ℕ → List ℕ
chain ps c = outward ps c c

-- cluster c is the cluster a or lies round it
abbrev pub encloses : List ℕ → ℕ → ℕ → Bool
encloses ps c a = (c == 0) || list_any (λ x. x == c) (chain ps a)

-- the root has no chain
outward_root : (ps : List ℕ) (n : ℕ) → outward ps n 0 ≡ []
outward_root ps zero = refl
outward_root ps (suc n) = refl

-- one step outward
pub outward_step : (ps : List ℕ) (n c : ℕ) → 0 < c → outward ps (suc n) c ≡ c ∷ outward ps n (slice_index ps (c - 1))
outward_step ps n c above = cond-false (c == 0) [] (c ∷ outward ps n (slice_index ps (c - 1)))
    (ne_eqb c 0 (λ e. omega arith))

-- more steps than the number of the cluster lead no further
outward_enough : (ps : List ℕ) → IsLower ps → (n m c : ℕ) → c ≤ n → c ≤ m → outward ps n c ≡ outward ps m c
outward_enough ps low zero m c len lem = let e : c ≡ 0 = omega arith in rw e (sym (outward_root ps m))
outward_enough ps low (suc n) zero c lec lem = let e : c ≡ 0 = omega arith in rw e (outward_root ps (suc n))
outward_enough ps low (suc n) (suc m) c len lem =
    ⊎_elim
    (λ e. rw e refl)
    (λ ne.
    let above : 0 < c = omega arith in
    let less : slice_index ps (c - 1) < c = low.lower c above in
    outward_step ps n c above
    ∙ ap (λ (xs : List ℕ). c ∷ xs) (outward_enough ps low n m (slice_index ps (c - 1)) (omega arith) (omega arith))
    ∙ sym (outward_step ps m c above))
    (cases_eq c 0)

-- the chain of a cluster is the cluster, and the chain of its parent
pub chain_more : (ps : List ℕ) → IsLower ps → (c : ℕ) → 0 < c → chain ps c ≡ c ∷ chain ps (slice_index ps (c - 1))
chain_more ps low zero above = absurd (omega arith)
chain_more ps low (suc n) above =
    let less : slice_index ps (suc n - 1) < suc n = low.lower (suc n) above in
    outward_step ps n (suc n) above
    ∙ ap (λ (xs : List ℕ). suc n ∷ xs) (outward_enough ps low n (slice_index ps (suc n - 1))
    (slice_index ps (suc n - 1)) (omega arith) (omega arith))

-- a cluster of a lower number encloses what encloses ... its parent: a step outward changes nothing
pub encloses_step : (ps : List ℕ) → IsLower ps → (c a : ℕ) → c < a
    → encloses ps c a ≡ encloses ps c (slice_index ps (a - 1))
encloses_step ps low c a lt =
    ap (λ (xs : List ℕ). (c == 0) || list_any (λ (x : ℕ). x == c) xs) (chain_more ps low a (omega arith))
    ∙ ap (λ (b : Bool). (c == 0) || (b || list_any (λ (x : ℕ). x == c) (chain ps (slice_index ps (a - 1)))))
    (ne_eqb a c (λ e. omega arith))

-- a cluster encloses itself
pub encloses_itself : (ps : List ℕ) → IsLower ps → (c : ℕ) → encloses ps c c ≡ true
encloses_itself ps low c =
    ⊎_elim
    (λ e. ap (λ (b : Bool). b || list_any (λ (x : ℕ). x == c) (chain ps c)) (eq-eqb c 0 e))
    (λ ne.
    or_right (c == 0) (list_any (λ (x : ℕ). x == c) (chain ps c))
    (ap (list_any (λ (x : ℕ). x == c)) (chain_more ps low c (omega arith))
    ∙ ap (λ (b : Bool). b || list_any (λ (x : ℕ). x == c) (chain ps (slice_index ps (c - 1)))) (eq-eqb c c refl)))
    (cases_eq c 0)

-- no cluster of a higher number stands in a chain
outward_below : (ps : List ℕ) → IsLower ps → (n a c : ℕ) → a < c → list_any (λ x. x == c) (outward ps n a) ≡ false
outward_below ps low zero a c lt = refl
outward_below ps low (suc n) a c lt =
    ⊎_elim
    (λ e. ap (λ (b : ℕ). list_any (λ (x : ℕ). x == c) (outward ps (suc n) b)) e)
    (λ ne.
    let less : slice_index ps (a - 1) < a = low.lower a (omega arith) in
    ap (list_any (λ (x : ℕ). x == c)) (outward_step ps n a (omega arith))
    ∙ ap (λ (b : Bool). b || list_any (λ (x : ℕ). x == c) (outward ps n (slice_index ps (a - 1))))
    (ne_eqb a c (λ e. omega arith))
    ∙ outward_below ps low n (slice_index ps (a - 1)) c (omega arith))
    (cases_eq a 0)

-- a cluster of a higher number does not enclose
pub encloses_higher : (ps : List ℕ) → IsLower ps → (c a : ℕ) → a < c → encloses ps c a ≡ false
encloses_higher ps low c a lt =
    ap (λ (b : Bool). b || list_any (λ (x : ℕ). x == c) (chain ps a)) (ne_eqb c 0 (λ e. omega arith))
    ∙ outward_below ps low a a c lt

-- the clusters of a chain lie between the root and its first, and enclose that
pub record IsOnChain (ps : List ℕ) (a c : ℕ) : Type 0 where
  pub above : 0 < c
  pub within : c ≤ a
  pub around : encloses ps c a ≡ true

-- each cluster of the walk outward is on it
pub chain_members : (ps : List ℕ) → IsLower ps → (n a : ℕ) → a ≤ n → All (IsOnChain ps a) (chain ps a)
chain_members ps low n zero le = All-nil (IsOnChain ps 0)
chain_members ps low zero (suc a) le = absurd (omega arith)
chain_members ps low (suc n) (suc a) le =
    let less : slice_index ps (suc a - 1) < suc a = low.lower (suc a) (omega arith) in
    let rest : All (IsOnChain ps (slice_index ps (suc a - 1))) (chain ps (slice_index ps (suc a - 1))) =
    chain_members ps low n (slice_index ps (suc a - 1)) (omega arith) in
    let here_first : IsOnChain ps (suc a) (suc a) =
    record { above = omega arith; within = omega arith; around = encloses_itself ps low (suc a) } in
    subst (All (IsOnChain ps (suc a))) (sym (chain_more ps low (suc a) (omega arith)))
    (All-cons (IsOnChain ps (suc a)) (suc a) (chain ps (slice_index ps (suc a - 1))) here_first
    (λ k d lt.
    let m = rest k d lt in
    record {
      above = m.above;
      within = omega (arith, m.within);
      around =
          encloses_step ps low _ (suc a) (omega (arith, m.within)) ∙ m.around;
    }))

-- a chain falls
pub chain_falls : (ps : List ℕ) → IsLower ps → (n a : ℕ) → a ≤ n → AllPairs (λ x y. y < x) (chain ps a)
chain_falls ps low n zero le = λ i j d lt within. absurd (omega arith)
chain_falls ps low zero (suc a) le = absurd (omega arith)
chain_falls ps low (suc n) (suc a) le =
    let less : slice_index ps (suc a - 1) < suc a = low.lower (suc a) (omega arith) in
    let members : All (IsOnChain ps (slice_index ps (suc a - 1))) (chain ps (slice_index ps (suc a - 1))) =
    chain_members ps low (slice_index ps (suc a - 1)) (slice_index ps (suc a - 1)) (omega arith) in
    subst (AllPairs (λ (x y : ℕ). y < x)) (sym (chain_more ps low (suc a) (omega arith)))
    (AllPairs-cons (λ (x y : ℕ). y < x) (suc a) (chain ps (slice_index ps (suc a - 1)))
    (λ k d lt. omega (arith, (members k d lt).within))
    (chain_falls ps low n (slice_index ps (suc a - 1)) (omega arith)))

-- a chain of clusters that all fail a test keeps none
pub chain_none : (ps : List ℕ) → IsLower ps → (p : ℕ → Bool) (n a : ℕ) → a ≤ n
    → ((c : ℕ) → c ≤ a → encloses ps c a ≡ true → p c ≡ false) → filter p (chain ps a) ≡ []
chain_none ps low p n zero le fails = refl
chain_none ps low p zero (suc a) le fails = absurd (omega arith)
chain_none ps low p (suc n) (suc a) le fails =
    let less : slice_index ps (suc a - 1) < suc a = low.lower (suc a) (omega arith) in
    let rest : filter p (chain ps (slice_index ps (suc a - 1))) ≡ [] =
    chain_none ps low p n (slice_index ps (suc a - 1)) (omega arith) (λ c lec en. fails c (omega arith)
    (encloses_step ps low c (suc a) (omega arith) ∙ en)) in
    ap (filter p) (chain_more ps low (suc a) (omega arith))
    ∙ cond-false (p (suc a)) (suc a ∷ filter p (chain ps (slice_index ps (suc a - 1))))
    (filter p (chain ps (slice_index ps (suc a - 1)))) (fails (suc a) (omega arith)
    (encloses_itself ps low (suc a)))
    ∙ rest

-- what encloses lies on the way outward
pub within_from_encloses : (g : Clustered) → IsLower g.parents → (n c a : ℕ) → a ≤ n → encloses g.parents c a ≡ true
    → IsWithin g c a
within_from_encloses g low zero c a le en =
    ⊎_elim
    (λ lt. absurd (false≢true (sym (encloses_higher g.parents low c a lt) ∙ en)))
    (λ ge. let e : c ≡ a = omega arith in subst (IsWithin g c) e here)
    (cases_lt a c)
within_from_encloses g low (suc n) c a le en =
    ⊎_elim
    (λ e. subst (IsWithin g c) e here)
    (⊎_elim
    (λ lt.
    let above : 0 < a = omega arith in
    let less : parent g a < a = low.lower a above in
    inner above (within_from_encloses g low n c (parent g a) (omega arith)
    (sym (encloses_step g.parents low c a lt) ∙ en)))
    (λ gt. absurd (false≢true (sym (encloses_higher g.parents low c a gt) ∙ en))))
    (cases_order c a)

-- what lies on the way outward encloses
pub encloses_from_within : (g : Clustered) → IsLower g.parents → (c a : ℕ) → IsWithin g c a
    → encloses g.parents c a ≡ true
encloses_from_within g low c _ here = encloses_itself g.parents low c
encloses_from_within g low c _ (inner {b = b} above w) =
    let outside : encloses g.parents c (parent g b) ≡ true = encloses_from_within g low c (parent g b) w in
    let less : parent g b < b = low.lower b above in
    ⊎_elim
    (λ lt. encloses_step g.parents low c b lt ∙ outside)
    (λ ge. absurd (false≢true (sym (encloses_higher g.parents low c (parent g b) (omega arith)) ∙ outside)))
    (cases_lt c b)

-- a cluster contains a node exactly where it is the node's home or lies round it
pub contains-IsWithin : (g : Clustered) → IsClustered g → (c v : ℕ) → (contains g c v ≡ true) ↔ IsWithin g c (home g v)
contains-IsWithin g is c v = (
  within_from_encloses g (IsLower-clustered g is) (home g v) c (home g v) (omega arith),
  encloses_from_within g
      (IsLower-clustered g is) c (home g v),
)
