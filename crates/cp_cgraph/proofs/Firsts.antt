-- The first of some faults, one by one.
use Rattle.std.proofs.Common.{◌≡◌, ℕ, ◌+◌, ◌<◌, inl, inr, ⊎_elim, List, [], ◌∷◌, ◌++◌, length, take, get_or, Option, Some, None, MatchOption, refl, sym, ap, subst, ◌∙◌, arith}
use Rattle.std.specs.List.{Contains}
use Rattle.std.proofs.lemmas.List.{take_more}
use Rattle.std.proofs.lemmas.List.Elements.{All-append, Contains-append_left, Contains-append_right, Contains-append_cases}
use Rattle.std.proofs.lemmas.Option.{MatchOption-at_none, MatchOption-at_some}
use Rattle.cp_cgraph.specs.declared.kind.GraphKind.TheVariants.{NoGraph}
use Rattle.cp_cgraph.specs.GraphFaults.{Fault, IsUpTo, IsFirst}

-- a fault up to one that is up to a third is up to the third
IsUpTo-trans : (f g h : Fault) → IsUpTo f g → IsUpTo g h → IsUpTo f h
IsUpTo-trans f g h (inl a) (inl b) = inl (omega arith)
IsUpTo-trans f g h (inl a) (inr b) = inl (omega (arith, b.0))
IsUpTo-trans f g h (inr a) (inl b) = inl (omega (arith, a.0))
IsUpTo-trans f g h (inr a) (inr b) = inr (a.0 ∙ b.0, omega (arith, a.1, b.1))

-- a fault does not stand behind itself
IsUpTo-refl : (f : Fault) → IsUpTo f f
IsUpTo-refl f = inr (refl, omega arith)

-- of one fault it is the first
pub IsFirst-one : (f : Fault) → IsFirst (f ∷ []) f
IsFirst-one f = record {
  stands = (0, omega arith, refl);
  least = λ k d lt. let z : k ≡ 0 =
      omega arith in subst (λ (j : ℕ). IsUpTo f (get_or (f ∷ []) j d)) (sym z) (IsUpTo-refl f);
}

-- in a list of one item stands this item
only : (x r : Fault) → Contains (x ∷ []) r → x ≡ r
only x r at = let z : at.0 ≡ 0 = omega (arith, at.1) in sym (ap (λ (j : ℕ). get_or (x ∷ []) j r) z) ∙ at.2

-- the first of some faults and one more is the first of the former first and that one
pub IsFirst-more : (fs : List Fault) (best f r : Fault) → IsFirst fs best → IsFirst (best ∷ f ∷ []) r
    → IsFirst (fs ++ f ∷ []) r
IsFirst-more fs best f r first two =
    let up : IsUpTo r best = two.least 0 r (omega arith) in
    let last : IsUpTo r f = two.least 1 r (omega arith) in
    record {
      stands = stands_in two.stands;
      least = All-append (IsUpTo r) fs (f ∷ []) (λ k d lt. IsUpTo-trans r best (get_or fs k d) up (first.least k d lt))
          (λ k d lt. let z : k ≡ 0 = omega arith in subst (λ (j : ℕ). IsUpTo r (get_or (f ∷ []) j d)) (sym z) last);
    }
  where
    -- it stands among them all
    stands_in : Contains (best ∷ f ∷ []) r → Contains (fs ++ f ∷ []) r
    stands_in at =
        ⊎_elim
        (λ l. subst (λ (x : Fault). Contains (fs ++ f ∷ []) x) (only best r l)
        (Contains-append_left fs (f ∷ []) best first.stands))
        (λ l. Contains-append_right fs (f ∷ []) r l)
        (Contains-append_cases (best ∷ []) (f ∷ []) r at)

-- before any other the first fault is the one that is seen
pub first_none : (xs : List Fault) (i : ℕ) (first : Option Fault) → i < length xs → first ≡ None
    → MatchOption first (i ≡ 0) (IsFirst (take i xs)) → IsFirst (take (i + 1) xs) (get_or xs i (0, NoGraph))
first_none xs i first less none inv =
    let z : i ≡ 0 = MatchOption-at_none (i ≡ 0) (IsFirst (take i xs)) none inv in
    let f = get_or xs i (0, NoGraph) in
    subst (λ (ys : List Fault). IsFirst ys f)
    (sym (take_more xs i (0, NoGraph) less ∙ ap (λ (k : ℕ). take k xs ++ f ∷ []) z)) (IsFirst-one f)

-- one more fault is seen behind the first of those before
pub first_some : (xs : List Fault) (i : ℕ) (first : Option Fault) (found r : Fault) → i < length xs → first ≡ Some found
    → MatchOption first (i ≡ 0) (IsFirst (take i xs)) → IsFirst (found ∷ get_or xs i (0, NoGraph) ∷ []) r
    → IsFirst (take (i + 1) xs) r
first_some xs i first found r less some inv two =
    subst (λ (ys : List Fault). IsFirst ys r) (sym (take_more xs i (0, NoGraph) less))
    (IsFirst-more (take i xs) found (get_or xs i (0, NoGraph)) r (MatchOption-at_some (i ≡ 0) (IsFirst (take i xs))
    found some inv) two)
