-- The darts of a graph: their ends, and the chains of darts that start at one vertex.
use Rattle.std.proofs.Common.{◌≡◌, ℕ, ◌+◌, ◌*◌, ◌/◌, ◌%◌, ◌<◌, List, [], ◌∷◌, ◌++◌, length, get_or, set, sym, refl, ap, ◌∙◌, subst, inl, inr, ⊎_elim, arith}
use Rattle.std.specs.Prelude.{replicate}
use Rattle.std.specs.List.{Contains}
use Rattle.std.proofs.lemmas.Bool.{cases_eq, eq-eqb, ne_eqb}
use Rattle.std.proofs.lemmas.List.{get_or_default, get_or-set_same, get_or-set_other, get_or_append_left, get_or_push, get_or_read, get_or-replicate, length-set, length_push, length-replicate}
use Rattle.cp_base.specs.Graphs.{AreWithin}
use Rattle.cp_orbits.specs.Connected.{Joins, here, step}
use Rattle.cp_orbits.specs.Classes.{labels}
use Rattle.cp_orbits.proofs.ClassLabels.{labels_connected}
use Rattle.cp_conn.specs.Darts.{start, finish, IsEntry, AreChained}

-- an even dart starts at the first end of its edge
pub start_even : (es : List (ℕ × ℕ)) (d : ℕ) → d % 2 ≡ 0 → start es d ≡ (get_or es (d / 2) (0, 0)).0
start_even es d e = rw (eq-eqb (d % 2) 0 e) refl

-- an odd dart starts at the second end of its edge
pub start_odd : (es : List (ℕ × ℕ)) (d : ℕ) → (d % 2 ≡ 0 → ⊥) → start es d ≡ (get_or es (d / 2) (0, 0)).1
start_odd es d ne = rw (ne_eqb (d % 2) 0 ne) refl

-- an even dart ends at the second end of its edge
pub finish_even : (es : List (ℕ × ℕ)) (d : ℕ) → d % 2 ≡ 0 → finish es d ≡ (get_or es (d / 2) (0, 0)).1
finish_even es d e = rw (eq-eqb (d % 2) 0 e) refl

-- an odd dart ends at the first end of its edge
pub finish_odd : (es : List (ℕ × ℕ)) (d : ℕ) → (d % 2 ≡ 0 → ⊥) → finish es d ≡ (get_or es (d / 2) (0, 0)).0
finish_odd es d ne = rw (ne_eqb (d % 2) 0 ne) refl

-- a pair of the list is contained
pub Contains-at : (es : List (ℕ × ℕ)) (k : ℕ) → k < length es → Contains es (get_or es k (0, 0))
Contains-at es k lt = (k, lt, get_or_default es k (get_or es k (0, 0)) (0, 0) lt)

-- the edge of a dart joins its two ends
pub dart_joins : (es : List (ℕ × ℕ)) (d : ℕ) → d < 2 * length es
    → Joins (get_or es (d / 2) (0, 0)) (start es d) (finish es d)
dart_joins es d lt =
    ⊎_elim
    (λ e. inl (sym (start_even es d e), sym (finish_even es d e)))
    (λ ne. inr (sym (finish_odd es d ne), sym (start_odd es d ne)))
    (cases_eq (d % 2) 0)

-- an edge has a dart from either of its ends to the other
pub dart_at : (es : List (ℕ × ℕ)) (e x y : ℕ) → e < length es → Joins (get_or es e (0, 0)) x y
    → (d : ℕ) × (d < 2 * length es) × (d / 2 ≡ e) × (start es d ≡ x) × (finish es d ≡ y)
dart_at es e x y lt j =
    ⊎_elim
    (λ h. (
      2 * e,
      omega arith,
      omega arith,
      start_even es (2 * e) (omega arith) ∙ ap (λ (p : ℕ × ℕ). p.0) even ∙ h.0,
      finish_even es (2 * e) (omega arith) ∙ ap (λ (p : ℕ × ℕ). p.1) even ∙ h.1,
    ))
    (λ h. (
      2 * e + 1,
      omega arith,
      omega arith,
      start_odd es (2 * e + 1) (λ f. omega arith) ∙ ap (λ (p : ℕ × ℕ). p.1) odd ∙ h.1,
      finish_odd es (2 * e + 1) (λ f. omega arith) ∙ ap (λ (p : ℕ × ℕ). p.0) odd ∙ h.0,
    ))
    j
  where
    -- the even dart of e is of edge e
    even : get_or es (2 * e / 2) (0, 0) ≡ get_or es e (0, 0)
    even = let at : 2 * e / 2 ≡ e = omega arith in ap (λ (k : ℕ). get_or es k (0, 0)) at

    -- the odd dart of e is of edge e
    odd : get_or es ((2 * e + 1) / 2) (0, 0) ≡ get_or es e (0, 0)
    odd = let at : (2 * e + 1) / 2 ≡ e = omega arith in ap (λ (k : ℕ). get_or es k (0, 0)) at

-- a pair of the list is what stands at its place
pub pair_at : (es : List (ℕ × ℕ)) (e : ℕ × ℕ) (c : Contains es e) → get_or es c.0 (0, 0) ≡ e
pair_at es e c = get_or_default es c.0 (0, 0) e c.1 ∙ c.2

-- a pair that joins two vertices has a dart from the one to the other
pub dart_of : (es : List (ℕ × ℕ)) (e : ℕ × ℕ) (x y : ℕ) → Contains es e → Joins e x y
    → (d : ℕ) × (d < 2 * length es) × (start es d ≡ x) × (finish es d ≡ y)
dart_of es e x y c j =
    let d = dart_at es c.0 x y c.1 (subst (λ (p : ℕ × ℕ). Joins p x y) (sym (pair_at es e c)) j) in
    (d.0, d.1, d.3, d.4)

-- the ends of a pair of a graph are vertices of it
pub within_pair : (n : ℕ) (es : List (ℕ × ℕ)) (e : ℕ × ℕ) → AreWithin n es → Contains es e → (e.0 < n) × (e.1 < n)
within_pair n es e w c = subst (λ (p : ℕ × ℕ). (p.0 < n) × (p.1 < n)) (get_or_default es c.0 (0, 0) e c.1 ∙ c.2)
    (w c.0 c.1)

-- what a pair of a graph joins to something is a vertex
pub within_joined : (n : ℕ) (es : List (ℕ × ℕ)) (e : ℕ × ℕ) (x y : ℕ) → AreWithin n es → Contains es e → Joins e x y
    → y < n
within_joined n es e x y w c j =
    ⊎_elim (λ h. subst (λ (z : ℕ). z < n) h.1 (within_pair n es e w c).1)
    (λ h. subst (λ (z : ℕ). z < n) h.0 (within_pair n es e w c).0) j

-- a joined pair can be read the other way
pub Joins-sym : (e : ℕ × ℕ) (x y : ℕ) → Joins e x y → Joins e y x
Joins-sym e x y j = ⊎_elim (λ h. inr h) (λ h. inl h) j

-- what a pair joins is in one component
pub labels_joined : (es : List (ℕ × ℕ)) (e : ℕ × ℕ) (x y : ℕ) → Contains es e → Joins e x y → labels es x ≡ labels es y
labels_joined es e x y c j = labels_connected es x y (step here e c j)

-- a dart ends at a vertex
pub finish_within : (n : ℕ) (es : List (ℕ × ℕ)) (d : ℕ) → AreWithin n es → d < 2 * length es → finish es d < n
finish_within n es d w lt = within_joined n es (get_or es (d / 2) (0, 0)) (start es d) (finish es d) w
    (Contains-at es (d / 2) (omega arith)) (dart_joins es d lt)

-- a dart starts at a vertex
pub start_within : (n : ℕ) (es : List (ℕ × ℕ)) (d : ℕ) → AreWithin n es → d < 2 * length es → start es d < n
start_within n es d w lt = within_joined n es (get_or es (d / 2) (0, 0)) (finish es d) (start es d) w
    (Contains-at es (d / 2) (omega arith))
    (Joins-sym (get_or es (d / 2) (0, 0)) (start es d) (finish es d) (dart_joins es d lt))

-- the two ends of a dart are in one component
pub labels_dart : (es : List (ℕ × ℕ)) (d : ℕ) → d < 2 * length es → labels es (start es d) ≡ labels es (finish es d)
labels_dart es d lt = labels_joined es (get_or es (d / 2) (0, 0)) (start es d) (finish es d)
    (Contains-at es (d / 2) (omega arith)) (dart_joins es d lt)

-- without darts each vertex has the entry 0
pub AreChained-none : (n : ℕ) (es : List (ℕ × ℕ)) → AreChained n es 0 (replicate n 0) []
AreChained-none n es = record {
  entry_each = length-replicate n 0;
  lower_each = refl;
  entry_of = λ v lt. record {
    below = omega (arith, get_or-replicate {A = ℕ} n v 0 0 lt);
    starts = λ d e. absurd (omega (arith, get_or-replicate {A = ℕ} n v 0 0 lt));
    highest = λ d le l e. omega arith;
  };
  lower_of = λ d lt. absurd (omega arith);
}

-- the next dart takes the entry of its vertex, and leads to the entry before
pub AreChained-more : (n : ℕ) (es : List (ℕ × ℕ)) (d v : ℕ) (entries lower : List ℕ) → AreChained n es d entries lower
    → start es d ≡ v → v < n → AreChained n es (d + 1) (set entries v (d + 1)) (lower ++ get_or entries v 0 ∷ [])
AreChained-more n es d v entries lower ch at lt = record {
  entry_each = length-set entries v (d + 1) ∙ ch.entry_each;
  lower_each = length_push lower (get_or entries v 0) ∙ ap (λ (k : ℕ). k + 1) ch.lower_each;
  entry_of = λ w ltw. ⊎_elim (λ e. subst (IsEntry es w (d + 1)) (sym (entry_at w e)) (own w e))
      (λ ne. subst (IsEntry es w (d + 1)) (sym (get_or-set_other entries v w (d + 1) 0 ne))
      (kept w ne (ch.entry_of w ltw))) (cases_eq w v);
  lower_of = λ k ltk. ⊎_elim (λ e. subst (IsEntry es (start es k) k) (sym (lower_at k e)) (last k e))
      (λ ne. subst (IsEntry es (start es k) k)
      (sym (get_or_append_left lower (get_or entries v 0 ∷ []) 0 k (omega (arith, ch.lower_each))))
      (ch.lower_of k (omega arith))) (cases_eq k d);
}
  where
    -- the changed entry is that of v
    entry_at : (w : ℕ) → w ≡ v → get_or (set entries v (d + 1)) w 0 ≡ d + 1
    entry_at w e = ap (λ (k : ℕ). get_or (set entries v (d + 1)) k 0) e
        ∙ get_or-set_same entries v (d + 1) 0 (omega (arith, ch.entry_each))

    -- the new dart is the highest that starts at v
    own : (w : ℕ) → w ≡ v → IsEntry es w (d + 1) (d + 1)
    own w e = record {
      below = omega arith;
      starts = λ k f. let g : k ≡ d = omega arith in ap (start es) g ∙ at ∙ sym e;
      highest = λ k le l f. omega arith;
    }

    -- the entry of another vertex stays right
    kept : (w : ℕ) → (w ≡ v → ⊥) → IsEntry es w d (get_or entries w 0) → IsEntry es w (d + 1) (get_or entries w 0)
    kept w ne is = record {
      below = omega (arith, is.below);
      starts = is.starts;
      highest = λ k le l f. ⊎_elim (λ e. ne (sym f ∙ ap (start es) e ∙ at)) (λ nk. is.highest k le (omega arith) f)
          (cases_eq k d);
    }

    -- the last item of the list is the entry before
    lower_at : (k : ℕ) → k ≡ d → get_or (lower ++ get_or entries v 0 ∷ []) k 0 ≡ get_or entries v 0
    lower_at k e = get_or_push lower (get_or entries v 0) 0 k (ch.lower_each ∙ sym e)

    -- the new dart leads to the next lower one that starts at v
    last : (k : ℕ) → k ≡ d → IsEntry es (start es k) k (get_or entries v 0)
    last k e = subst (λ (j : ℕ). IsEntry es (start es j) j (get_or entries v 0)) (sym e)
        (subst (λ (w : ℕ). IsEntry es w d (get_or entries v 0)) (sym at) (ch.entry_of v lt))

-- the next dart is put into the table, as a program reads the entry of its vertex
pub AreChained-step : (n : ℕ) (es : List (ℕ × ℕ)) (d v read : ℕ) (entries lower longer : List ℕ)
    → AreChained n es d entries lower → AreWithin n es → d < 2 * length es → v ≡ start es d
    → read ≡ get_or entries v read → longer ≡ lower ++ read ∷ []
    → AreChained n es (d + 1) (set entries v (d + 1)) longer
AreChained-step n es d v read entries lower longer ch w lt at read_is longer_is =
    let ltv : v < n = subst (λ (x : ℕ). x < n) (sym at) (start_within n es d w lt) in
    let same : longer ≡ lower ++ get_or entries v 0 ∷ [] = longer_is
    ∙ ap (λ (k : ℕ). lower ++ k ∷ []) (get_or_read entries v read (omega (arith, ch.entry_each)) read_is 0) in
    subst (AreChained n es (d + 1) (set entries v (d + 1))) (sym same)
    (AreChained-more n es d v entries lower ch (sym at) ltv)
