-- Graphs with some vertices removed, one after the other.
use Rattle.std.proofs.Common.{◌≡◌, ℕ, ◌<◌, Bool, true, false, cond, not, ◌&&◌, eqb, List, [], ◌∷◌, length, get_or, set, sym, refl, ap, ap₂, ◌∙◌, ⊎_elim, arith}
use Rattle.std.specs.Prelude.{replicate}
use Rattle.std.specs.List.{filter}
use Rattle.std.proofs.lemmas.Bool.{cases_eq, cases_lt, eq-eqb, ne_eqb}
use Rattle.std.proofs.lemmas.List.{get_or-replicate, get_or-set_same, get_or-set_other, get_or_past, length-replicate}
use Rattle.cp_conn.specs.CutVertex.{avoids, without_vertex}
use Rattle.cp_conn.specs.Removed.{is_left, without_removed}

-- a vertex is not removed where it is another than v, and was not
kept_more : (removed : List Bool) (v x : ℕ) → v < length removed
    → not (get_or (set removed v true) x false) ≡ (not (eqb x v) && not (get_or removed x false))
kept_more removed v x lt =
    ⊎_elim
    (λ at. ap (λ (k : ℕ). not (get_or (set removed v true) k false)) at
    ∙ ap not (get_or-set_same removed v true false lt)
    ∙ sym (ap (λ (b : Bool). not b && not (get_or removed x false)) (eq-eqb x v at)))
    (λ off. ap not (get_or-set_other removed v x true false off)
    ∙ sym (ap (λ (b : Bool). not b && not (get_or removed x false)) (ne_eqb x v off)))
    (cases_eq x v)

-- the second and the third of four facts can be exchanged
and_middle : (a b c d : Bool) → ((a && b) && (c && d)) ≡ ((a && c) && (b && d))
and_middle true true c d = refl
and_middle true false true d = refl
and_middle true false false d = refl
and_middle false b c d = refl

-- a pair is left where it does not touch v, and was left
left_more : (removed : List Bool) (v : ℕ) (e : ℕ × ℕ) → v < length removed
    → is_left (set removed v true) e ≡ (avoids v e && is_left removed e)
left_more removed v e lt =
    ap₂ (λ (a b : Bool). a && b) (kept_more removed v e.0 lt) (kept_more removed v e.1 lt)
    ∙ and_middle (not (eqb e.0 v)) (not (get_or removed e.0 false)) (not (eqb e.1 v)) (not (get_or removed e.1 false))

-- what passes two tests is what passes the one of what passes the other
filter_both : (p q r : ℕ × ℕ → Bool) (es : List (ℕ × ℕ)) → ((e : ℕ × ℕ) → r e ≡ (p e && q e))
    → filter r es ≡ filter p (filter q es)
filter_both p q r [] both = refl
filter_both p q r (e ∷ es) both =
    ap (λ (b : Bool). cond b (e ∷ filter r es) (filter r es)) (both e)
    ∙ by_tests (p e) (q e) refl (filter_both p q r es both)
  where
    -- the two filters agree on a list with one pair more, where the tests of that pair are known
    by_tests : (a b : Bool) → p e ≡ a → filter r es ≡ filter p (filter q es)
        → cond (a && b) (e ∷ filter r es) (filter r es) ≡ filter p (cond b (e ∷ filter q es) (filter q es))
    by_tests true true pa rest =
        ap (λ (fs : List (ℕ × ℕ)). e ∷ fs) rest
        ∙ sym (ap (λ (c : Bool). cond c (e ∷ filter p (filter q es)) (filter p (filter q es))) pa)
    by_tests false true pa rest =
        rest ∙ sym (ap (λ (c : Bool). cond c (e ∷ filter p (filter q es)) (filter p (filter q es))) pa)
    by_tests true false pa rest = rest
    by_tests false false pa rest = rest

-- one vertex more is removed
pub removed_more : (removed : List Bool) (v : ℕ) (es : List (ℕ × ℕ)) → v < length removed
    → without_removed (set removed v true) es ≡ without_vertex v (without_removed removed es)
removed_more removed v es lt =
    filter_both (avoids v) (is_left removed) (is_left (set removed v true)) es (λ e. left_more removed v e lt)

-- where none is removed all pairs are left
pub none_removed : (n : ℕ) (es : List (ℕ × ℕ)) → without_removed (replicate n false) es ≡ es
none_removed n [] = refl
none_removed n (e ∷ es) =
    ap₂
    (λ (a b : Bool).
    cond (not a && not b)
    (e ∷ without_removed (replicate n false) es)
    (without_removed (replicate n false) es))
    (unmarked e.0) (unmarked e.1)
    ∙ ap (λ (fs : List (ℕ × ℕ)). e ∷ fs) (none_removed n es)
  where
    -- no vertex is removed
    unmarked : (x : ℕ) → get_or (replicate n false) x false ≡ false
    unmarked x =
        ⊎_elim
        (λ lt. get_or-replicate n x false false lt)
        (λ ge. get_or_past (replicate n false) x false (omega (arith, length-replicate n false)))
        (cases_lt x n)

-- where v alone is removed, the pairs that do not touch v are left
pub one_removed : (n v : ℕ) (es : List (ℕ × ℕ)) → v < n
    → without_removed (set (replicate n false) v true) es ≡ without_vertex v es
one_removed n v es lt =
    removed_more (replicate n false) v es (omega (arith, length-replicate n false))
    ∙ ap (without_vertex v) (none_removed n es)
