-- Lists of equations by var.
use Rattle.std.proofs.Common.{◌≡◌, ℕ, zero, suc, ◌+◌, ◌<◌, List, [], ◌∷◌, ◌++◌, length, set, get_or, Some, replicate, slice_get, sym, refl, ap, ◌∙◌, subst, inl, inr, ⊎_elim, arith, length-set}
use Rattle.std.specs.List.{Contains}
use Rattle.std.proofs.lemmas.Bool.{cases_eq}
use Rattle.std.proofs.lemmas.List.{get_or-set_same, get_or-set_other, get_or-replicate, length-replicate}
use Rattle.std.proofs.lemmas.List.Elements.{Contains-append_cases, Contains-append_left, Contains-append_right}
use Rattle.cp_base.specs.declared.equation.Equation.{Equation}
use Rattle.cp_parity.specs.Equations.{IsOverVars, Touches}
use Rattle.cp_parity.specs.EquationLists.{AreOf, AreListed}
use Rattle.cp_parity.proofs.LookUps.{same_at}

-- the one item of a list stands at its one place
one_at : (p q k : ℕ) → k < length (p ∷ []) → get_or (p ∷ []) k q ≡ q → p ≡ q
one_at p q zero lt e = e
one_at p q (suc k) lt e = absurd (omega arith)

-- a list of one item contains it
one_contained : (p : ℕ) → Contains (p ∷ []) p
one_contained p = (0, omega arith, refl)

-- an equation of the var may stand once more
AreOf-again : (eqs : List Equation) (bound x : ℕ) (places : List ℕ) (p : ℕ) (e : Equation)
    → AreOf eqs bound x places → slice_get eqs p ≡ Some e → Touches e x → AreOf eqs bound x (places ++ p ∷ [])
AreOf-again eqs bound x places p e are at touches = record {
  within = λ q c. ⊎_elim
      (λ old. are.within q old)
      (λ new. subst (λ (k : ℕ). (f : Equation) × (slice_get eqs k ≡ Some f) × Touches f x)
      (one_at p q new.0 new.1 new.2) (e, at, touches))
      (Contains-append_cases places (p ∷ []) q c);
  all = λ q f lt fat t. Contains-append_left places (p ∷ []) q (are.all q f lt fat t);
}

-- one equation more, which the list contains if it is one of the var
AreOf-next : (eqs : List Equation) (bound x : ℕ) (places : List ℕ) (e : Equation)
    → AreOf eqs bound x places → slice_get eqs bound ≡ Some e → (Touches e x → Contains places bound)
    → AreOf eqs (bound + 1) x places
AreOf-next eqs bound x places e are at contained = record {
  within = are.within;
  all = λ q f lt fat t. ⊎_elim
      (λ same. subst (Contains places) (sym same)
      (contained (subst (λ (g : Equation). Touches g x) (same_at eqs bound f e (ap (slice_get eqs) (sym same)
      ∙ fat) at) t)))
      (λ ne. are.all q f (omega arith) fat t)
      (cases_eq q bound);
}

-- no equation is listed in empty lists
pub AreListed-none : (eqs : List Equation) (vars : ℕ) → AreListed eqs vars 0 (replicate vars [])
AreListed-none eqs vars = record {
  size = length-replicate vars [];
  each = λ x lt. subst (AreOf eqs 0 x) (sym (get_or-replicate {A = List ℕ} vars x [] [] lt)) (record {
    within = λ p c. absurd (let below : c.0 < length {A = ℕ} [] = c.1 in omega arith);
    all = λ p e below at t. absurd (omega arith);
  });
}

-- one equation more is listed, at both of its vars
pub AreListed-more : (eqs : List Equation) (vars place : ℕ) (lists : List (List ℕ)) (e : Equation) (one two : List ℕ)
    → AreListed eqs vars place lists → IsOverVars vars e → slice_get eqs place ≡ Some e
    → one ≡ get_or lists e.x [] ++ place ∷ [] → two ≡ get_or (set lists e.x one) e.y [] ++ place ∷ []
    → AreListed eqs vars (place + 1) (set (set lists e.x one) e.y two)
AreListed-more eqs vars place lists e one two listed within at one_is two_is = record {
  size = length-set mid e.y two ∙ size_mid;
  each = λ x lt. AreOf-next eqs place x (get_or last x []) e (last_of x lt) at (contained x lt);
}
  where
    mid : List (List ℕ)
    mid = set lists e.x one

    last : List (List ℕ)
    last = set mid e.y two

    size_mid : length mid ≡ vars
    size_mid = length-set lists e.x one ∙ listed.size

    mid_at : get_or mid e.x [] ≡ get_or lists e.x [] ++ place ∷ []
    mid_at = get_or-set_same lists e.x one [] (omega (arith, within.0, listed.size)) ∙ one_is

    last_at : get_or last e.y [] ≡ get_or mid e.y [] ++ place ∷ []
    last_at = get_or-set_same mid e.y two [] (omega (arith, within.1, size_mid)) ∙ two_is

    mid_of : (x : ℕ) → x < vars → AreOf eqs place x (get_or mid x [])
    mid_of x lt = ⊎_elim
        (λ same. subst (λ (v : ℕ). AreOf eqs place v (get_or mid v [])) (sym same)
        (subst (AreOf eqs place e.x) (sym mid_at) (AreOf-again eqs place e.x (get_or lists e.x []) place e
        (listed.each e.x within.0) at (inl refl))))
        (λ ne. subst (AreOf eqs place x) (sym (get_or-set_other lists e.x x one [] ne)) (listed.each x lt))
        (cases_eq x e.x)

    last_of : (x : ℕ) → x < vars → AreOf eqs place x (get_or last x [])
    last_of x lt = ⊎_elim
        (λ same. subst (λ (v : ℕ). AreOf eqs place v (get_or last v [])) (sym same)
        (subst (AreOf eqs place e.y) (sym last_at) (AreOf-again eqs place e.y (get_or mid e.y []) place e
        (mid_of e.y within.1) at (inr refl))))
        (λ ne. subst (AreOf eqs place x) (sym (get_or-set_other mid e.y x two [] ne)) (mid_of x lt))
        (cases_eq x e.y)

    at_second : Contains (get_or last e.y []) place
    at_second = subst (λ (ps : List ℕ). Contains ps place) (sym last_at)
        (Contains-append_right (get_or mid e.y []) (place ∷ []) place (one_contained place))

    at_first : Contains (get_or mid e.x []) place
    at_first = subst (λ (ps : List ℕ). Contains ps place) (sym mid_at)
        (Contains-append_right (get_or lists e.x []) (place ∷ []) place (one_contained place))

    contained : (x : ℕ) → x < vars → Touches e x → Contains (get_or last x []) place
    contained x lt t = ⊎_elim
        (λ same. subst (λ (v : ℕ). Contains (get_or last v []) place) (sym same) at_second)
        (λ ne. ⊎_elim
        (λ f. subst (λ (ps : List ℕ). Contains ps place) (sym (get_or-set_other mid e.y x two [] ne))
        (subst (λ (v : ℕ). Contains (get_or mid v []) place) f at_first))
        (λ f. absurd (ne (sym f)))
        t)
        (cases_eq x e.y)
