-- Vertices and their kinds: what is found under a name, and what is kept.
use Rattle.std.proofs.Common.{◌≡◌, ℕ, ◌+◌, Bool, true, false, cond, eqb, List, [], ◌∷◌, length, map, take, sym, refl, ap, ◌∙◌, subst, inl, inr, ⊎_elim, arith}
use Rattle.std.specs.Prelude.{Option, Some, None, find, filter}
use Rattle.std.specs.List.{All, Contains, flat_map}
use Rattle.std.specs.List.Sorted.{IsPermutation}
use Rattle.std.specs.Option.{option_map, option_map_or, option_or}
use Rattle.std.proofs.lemmas.Bool.{both_ways, cases_Bool, cases_eq, cond-true, cond-false, eq-eqb, ne_eqb, eqb-true, false≢true, or_parts}
use Rattle.std.proofs.lemmas.List.{get_or-append-add, length-append}
use Rattle.std.proofs.Math.ListN.{get_or-append}
use Rattle.std.proofs.lemmas.List.Elements.{All-nil, All-cons, All-head, All-tail, All-append}
use Rattle.cp_lists.specs.CyclicLists.{Has}
use Rattle.cp_lists.proofs.DistinctLists.{Has-Contains}
use Rattle.cp_conn.specs.NamedGraphs.{NamedGraph, edges_at}
use Rattle.cp_board.specs.declared.parts.Kind.{Kind}
use Rattle.cp_board.specs.declared.parts.Kind.TheVariants.{P, Q}
use Rattle.cp_board.specs.declared.parts.Vert.{Vert}
use Rattle.cp_board.specs.Names.{has}
use Rattle.cp_board.specs.Changes.{free_vert}
use Rattle.cp_board.specs.Instances.{IsRightKind, kind_in}

-- what holds of all values holds of those of each item
pub All-by_item : {A B : Type 0} (holds : B → Type 0) (f : A → List B) (xs : List A) → All holds (flat_map f xs)
    → All (λ x. All holds (f x)) xs
All-by_item holds f [] all = All-nil (λ x. All holds (f x))
All-by_item holds f (x ∷ xs) all = All-cons (λ y. All holds (f y)) x xs here (All-by_item holds f xs later)
  where
    here : All holds (f x)
    here k d lt = subst holds (get_or-append (f x) (flat_map f xs) d k lt)
        (all k d (omega (arith, lt, length-append (f x) (flat_map f xs))))

    later : All holds (flat_map f xs)
    later k d lt = subst holds (get_or-append-add (f x) (flat_map f xs) k d)
        (all (length (f x) + k) d (omega (arith, lt, length-append (f x) (flat_map f xs))))

-- and the other way round
pub All-values : {A B : Type 0} (holds : B → Type 0) (f : A → List B) (xs : List A) → All (λ x. All holds (f x)) xs
    → All holds (flat_map f xs)
All-values holds f [] all = All-nil holds
All-values holds f (x ∷ xs) all =
    All-append holds (f x) (flat_map f xs) (All-head (λ y. All holds (f y)) x xs all)
    (All-values holds f xs (All-tail (λ y. All holds (f y)) x xs all))

-- nothing is not something
pub none_some : {A : Type 0} (x : A) → None ≡ Some x → ⊥
none_some x e = false≢true (ap (λ o. option_map_or (λ z. true) o false) e)

-- a vertex of a kind is live
pub kind_live : (vs : List Vert) (n : ℕ) (kind : Kind) → kind_in vs n ≡ Some kind → Contains (map (λ v. v.name) vs) n
kind_live vs n kind e = (Has-Contains n (map (λ v. v.name) vs)).0 (live vs e)
  where
    live : (ws : List Vert) → kind_in ws n ≡ Some kind → Has n (map (λ v. v.name) ws)
    live [] f = absurd (none_some kind f)
    live (w ∷ ws) f =
        ⊎_elim
        (λ t. inl (eqb-true w.name n t))
        (λ u. inr (live ws
        (sym (ap (option_map (λ x. x.kind)) (cond-false (eqb w.name n) (Some w) (find (λ x. eqb x.name n) ws) u)) ∙ f)))
        (cases_Bool (eqb w.name n))

-- a kind stays right where the edges stay
pub kind_kept : (g k : NamedGraph) (v : ℕ) (kind : Kind) → edges_at k v ≡ edges_at g v → IsRightKind g v kind
    → IsRightKind k v kind
kind_kept g k v P same right = tt
kind_kept g k v (Q cell psi) same right = (
  subst (λ es. IsPermutation es psi) (sym same) right.0,
  right.1 ∙ sym (ap (take 1) same),
)

-- a vertex that stays is found as before
pub found_kept : (keeps : ℕ → Bool) (n : ℕ) → keeps n ≡ true → (vs : List Vert)
    → find (λ v. eqb v.name n) (filter (λ v. keeps v.name) vs) ≡ find (λ v. eqb v.name n) vs
found_kept keeps n t [] = refl
found_kept keeps n t (v ∷ vs) =
    ⊎_elim
    (λ k. ap (find (λ w. eqb w.name n)) (cond-true (keeps v.name) (v ∷ filter (λ w. keeps w.name) vs) (filter (λ w. keeps w.name) vs) k)
    ∙ ap (λ o. cond (eqb v.name n) (Some v) o) (found_kept keeps n t vs))
    (λ k. ap (find (λ w. eqb w.name n)) (cond-false (keeps v.name) (v ∷ filter (λ w. keeps w.name) vs) (filter (λ w. keeps w.name) vs) k)
    ∙ found_kept keeps n t vs
    ∙ sym (cond-false (eqb v.name n) (Some v) (find (λ w. eqb w.name n) vs)
    (ne_eqb v.name n (λ e. both_ways (keeps v.name) k (ap keeps e ∙ t)))))
    (cases_Bool (keeps v.name))

-- a new vertex is found
pub found_free : (n : ℕ) (ns : List ℕ) → Has n ns → find (λ v. eqb v.name n) (map free_vert ns) ≡ Some (free_vert n)
found_free n [] h = elim h [ ]
found_free n (m ∷ ms) h =
    ⊎_elim
    (λ (e : m ≡ n). cond-true (eqb m n) (Some (free_vert m)) (find (λ v. eqb v.name n) (map free_vert ms)) (eq-eqb m n e)
    ∙ ap (λ z. Some (free_vert z)) e)
    (λ off. cond-false (eqb m n) (Some (free_vert m)) (find (λ v. eqb v.name n) (map free_vert ms)) (ne_eqb m n off)
    ∙ found_free n ms (⊎_elim (λ e. absurd (off e)) (λ k. k) h))
    (cases_eq m n)

-- a name that no vertex has is not found
pub none_found : (n : ℕ) (vs : List Vert) → has (map (λ v. v.name) vs) n ≡ false → find (λ v. eqb v.name n) vs ≡ None
none_found n [] f = refl
none_found n (v ∷ vs) f =
    let parts = or_parts (eqb n v.name) (has (map (λ w. w.name) vs) n) f in
    cond-false (eqb v.name n) (Some v) (find (λ w. eqb w.name n) vs)
    (ne_eqb v.name n (λ e. both_ways (eqb n v.name) parts.0 (eq-eqb n v.name (sym e))))
    ∙ none_found n vs parts.1

-- what is found first
pub found_or : (o o' : Option Vert) → option_map (λ x. x.kind) o ≡ Some P
    → option_map (λ x. x.kind) (option_or o o') ≡ Some P
found_or None o' e = absurd (none_some P e)
found_or (Some x) o' e = e
