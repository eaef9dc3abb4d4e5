-- Walks along equations.
use Rattle.std.proofs.Common.{◌≡◌, ℕ, Bool, true, cond, List, [], ◌∷◌, ◌++◌, Some, reverse, slice_get, sym, refl, ap, ap₂, ◌∙◌, subst, inl, inr, ⊎_elim}
use Rattle.std.proofs.lemmas.List.{reverse-append}
use Rattle.cp_base.specs.declared.equation.Equation.{Equation}
use Rattle.cp_orbits.specs.Connected.{Joins}
use Rattle.cp_parity.specs.declared.found.Found.{Found}
use Rattle.cp_parity.specs.Equations.{differ, IsWalk, IsOddCycle}
use Rattle.cp_parity.specs.Search.{parity, Leads, Hangs}
use Rattle.cp_parity.proofs.Parity.{differ_ne, is_odd_at-is, parity-append, parity_one, parity-reverse, parity-count}
use Rattle.cp_base.proofs.Bits.{differ-comm, differ_same, differ_through}

-- what joins x to y joins y to x
pub Joins-sym : (p : ℕ × ℕ) (x y : ℕ) → Joins p x y → Joins p y x
Joins-sym p x y j = ⊎_elim (λ h. inr h) (λ h. inl h) j

-- one equation is a walk
pub IsWalk-one : (eqs : List Equation) (place : ℕ) (e : Equation) (x y : ℕ) → slice_get eqs place ≡ Some e
    → Joins (e.x, e.y) x y → IsWalk eqs x (place ∷ []) y
IsWalk-one eqs place e x y at j = (e, y, at, j, refl)

-- two walks, one behind the other
pub IsWalk-append : (eqs : List Equation) (x y z : ℕ) (ps qs : List ℕ) → IsWalk eqs x ps y → IsWalk eqs y qs z
    → IsWalk eqs x (ps ++ qs) z
IsWalk-append eqs x y z [] qs one two = subst (λ (v : ℕ). IsWalk eqs v qs z) (sym one) two
IsWalk-append eqs x y z (p ∷ ps) qs one two = (one.0, one.1, one.2, one.3, IsWalk-append eqs one.1 y z ps qs one.4 two)

-- a walk leads back
pub IsWalk-reverse : (eqs : List Equation) (x y : ℕ) (ps : List ℕ) → IsWalk eqs x ps y → IsWalk eqs y (reverse ps) x
IsWalk-reverse eqs x y [] walk = sym walk
IsWalk-reverse eqs x y (p ∷ ps) walk =
    subst (λ (qs : List ℕ). IsWalk eqs y qs x) (sym (reverse-append (p ∷ []) ps))
    (IsWalk-append eqs y walk.1 x (reverse ps) (p ∷ []) (IsWalk-reverse eqs walk.1 y ps walk.4)
    (IsWalk-one eqs p walk.0 walk.1 x walk.2 (Joins-sym (walk.0.x, walk.0.y) x walk.1 walk.3)))

-- no step
pub Leads-none : (eqs : List Equation) (f g : Found) → f ≡ g → Leads eqs f [] g
Leads-none eqs f g e = record {
  walked = ap (λ (h : Found). h.var) e;
  tied = sym (differ_same f.bit)
      ∙ ap (λ (h : Found). differ f.bit h.bit) e;
}

-- one step up
pub Leads-more : (eqs : List Equation) (root : ℕ) (found : List Found) (k : ℕ) (f g : Found) (walk : List ℕ)
    → Leads eqs f walk g → (h : Hangs eqs root found k g) → Leads eqs f (walk ++ g.link ∷ []) h.above
Leads-more eqs root found k f g walk leads h = record {
  walked = IsWalk-append eqs f.var g.var h.above.var walk (g.link ∷ []) leads.walked
      (IsWalk-one eqs g.link h.equation g.var h.above.var h.link_at h.joined);
  tied = parity-append eqs walk (g.link ∷ [])
      ∙ ap₂ differ leads.tied (parity_one eqs g.link ∙ is_odd_at-is eqs g.link h.equation h.link_at ∙ sym h.tied)
      ∙ differ_through f.bit g.bit h.above.bit;
}

-- two walks to the root, and an equation between their ends that the bits do not meet
pub IsOddCycle-from : (eqs : List Equation) (link : ℕ) (e : Equation) (f g r : Found) (ups downs : List ℕ)
    → Leads eqs f ups r → Leads eqs g downs r → slice_get eqs link ≡ Some e → Joins (e.x, e.y) g.var f.var
    → (differ f.bit g.bit ≡ e.odd → ⊥)
    → IsOddCycle eqs ((ups ++ reverse downs) ++ link ∷ [])
IsOddCycle-from eqs link e f g r ups downs up down at j ne = record {
  start = f.var;
  closed = IsWalk-append eqs f.var g.var f.var (ups ++ reverse downs) (link ∷ [])
      (IsWalk-append eqs f.var r.var g.var ups (reverse downs) up.walked
      (IsWalk-reverse eqs g.var r.var downs down.walked))
      (IsWalk-one eqs link e g.var f.var at j);
  odd = parity-count eqs ((ups ++ reverse downs) ++ link ∷ []) ∙ ap (λ (b : Bool). cond b 1 0) is_odd;
}
  where
    there : parity eqs (ups ++ reverse downs) ≡ differ f.bit g.bit
    there = parity-append eqs ups (reverse downs)
        ∙ ap₂ differ up.tied (parity-reverse eqs downs ∙ down.tied ∙ differ-comm g.bit r.bit)
        ∙ differ_through f.bit r.bit g.bit

    is_odd : parity eqs ((ups ++ reverse downs) ++ link ∷ []) ≡ true
    is_odd = parity-append eqs (ups ++ reverse downs) (link ∷ [])
        ∙ ap₂ differ there (parity_one eqs link ∙ is_odd_at-is eqs link e at)
        ∙ differ-comm (differ f.bit g.bit) e.odd ∙ differ_ne f.bit g.bit e.odd ne
