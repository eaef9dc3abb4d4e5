-- A search follows an equation.
use Rattle.std.proofs.Common.{◌≡◌, ℕ, ◌<◌, ◌≤◌, Bool, true, false, not, List, [], ◌∷◌, ◌++◌, length, set, get_or, Option, Some, None, slice_get, sym, refl, ap, ◌∙◌, subst, ⊎_elim, arith}
use mathlib.Core.Bool.{beq}
use Rattle.std.specs.List.{All}
use Rattle.std.proofs.lemmas.Option.{slice_get_within, slice_get_read}
use Rattle.cp_base.specs.declared.equation.Equation.{Equation}
use Rattle.cp_orbits.specs.Connected.{Joins}
use Rattle.cp_parity.specs.declared.found.Found.{Found}
use Rattle.cp_parity.specs.Equations.{differ, IsOverVars, IsOddCycle}
use Rattle.cp_parity.specs.Search.{Hangs, IsTree, IsSearch, GoesOn, IsSettled, AreDone}
use Rattle.cp_parity.proofs.LookUps.{All-at, same_at, at_append, at_end}
use Rattle.cp_base.proofs.Bits.{differ-comm}
use Rattle.cp_parity.proofs.Walks.{Joins-sym}
use Rattle.cp_parity.proofs.SearchSteps.{not_before_root, GoesOn-find, IsSettled-from}

-- a bit that is the other one's and the equation's sum
pub sum_bit : (a o : Bool) → differ (not (beq a o)) a ≡ o
sum_bit true true = refl
sum_bit true false = refl
sum_bit false true = refl
sum_bit false false = refl

-- bits that pass the test meet the equation
pub met_bits : (a b o : Bool) → beq b (not (beq a o)) ≡ true → differ a b ≡ o
met_bits true true true e = cc
met_bits true true false e = cc
met_bits true false true e = cc
met_bits true false false e = cc
met_bits false true true e = cc
met_bits false true false e = cc
met_bits false false true e = cc
met_bits false false false e = cc

-- bits that fail the test do not
pub unmet_bits : (a b o : Bool) → beq b (not (beq a o)) ≡ false → differ a b ≡ o → ⊥
unmet_bits true true true e m = cc
unmet_bits true true false e m = cc
unmet_bits true false true e m = cc
unmet_bits true false false e m = cc
unmet_bits false true true e m = cc
unmet_bits false true false e m = cc
unmet_bits false false true e m = cc
unmet_bits false false false e m = cc

-- the equation at a place joins the var that stands at another place to a var
pub record IsStep (eqs : List Equation) (root : ℕ) (found : List Found) (places : List (Option ℕ)) (link from : ℕ)
    (e : Equation) (f : Found) (var : ℕ) : Type 0 where
  pub link_at : slice_get eqs link ≡ Some e
  pub from_at : slice_get found from ≡ Some f
  pub not_before : root ≤ from
  pub joined : Joins (e.x, e.y) f.var var
  pub within : var < length places

-- what the code reads of a step
pub IsStep-from : (eqs : List Equation) (root : ℕ) (found : List Found) (places : List (Option ℕ)) (link from : ℕ)
    (e : Equation) (f : Found) (var : ℕ)
    → All (IsOverVars (length places)) eqs → slice_get eqs link ≡ Some e → from < length found
    → f ≡ get_or found from f → root ≤ from
    → Joins (e.x, e.y) f.var var → IsStep eqs root found places link from e f var
IsStep-from eqs root found places link from e f var vars at lt read below joined = record {
  link_at = at;
  from_at = slice_get_read found (length found) from f refl lt read;
  not_before = below;
  joined = joined;
  within = ⊎_elim (λ h. subst (λ (v : ℕ). v < length places) h.1 ends.1)
      (λ h. subst (λ (v : ℕ). v < length places) h.0 ends.0) joined;
}
  where
    ends : IsOverVars (length places) e
    ends = All-at (IsOverVars (length places)) eqs link e vars at

-- the var was found before
pub found_before : (eqs : List Equation) (root : ℕ) (found : List Found) (places : List (Option ℕ)) (link from : ℕ)
    (e : Equation) (f : Found) (var to : ℕ) (o : Option ℕ)
    → IsStep eqs root found places link from e f var → IsSearch eqs root found places → o ≡ get_or places var o
    → o ≡ Some to
    → (g : Found) × (slice_get found to ≡ Some g) × (g.var ≡ var)
found_before eqs root found places link from e f var to o step search read is =
    search.are_placed.named var to (slice_get_read places (length places) var o refl step.within read ∙ ap Some is)

-- and not before the root
pub found_behind : (eqs : List Equation) (root : ℕ) (found : List Found) (places : List (Option ℕ)) (link from : ℕ)
    (e : Equation) (f g : Found) (var to : ℕ)
    → IsStep eqs root found places link from e f var → IsSearch eqs root found places → AreDone eqs root found from
    → slice_get found to ≡ Some g → g.var ≡ var → root ≤ to
found_behind eqs root found places link from e f g var to step search done at is =
    not_before_root eqs root found places e link from to f g search.are_placed done step.link_at step.from_at at
    step.not_before
    (subst (λ (v : ℕ). Joins (e.x, e.y) f.var v) (sym is) step.joined)

-- the bits of both vars meet the equation
pub settled_before : (eqs : List Equation) (root : ℕ) (found : List Found) (places : List (Option ℕ)) (link from : ℕ)
    (e : Equation) (f h : Found) (var to : ℕ) (o : Option ℕ)
    → IsStep eqs root found places link from e f var → IsSearch eqs root found places → AreDone eqs root found from
    → o ≡ get_or places var o → o ≡ Some to
    → h ≡ get_or found to h → beq h.bit (not (beq f.bit e.odd)) ≡ true → (x : Equation) → slice_get eqs link ≡ Some x
    → IsSettled root found x
settled_before eqs root found places link from e f h var to o step search done oread ois hread test x at =
    let g = found_before eqs root found places link from e f var to o step search oread ois in
    let hat : slice_get found to ≡ Some h = slice_get_read found (length found) to h refl
    (slice_get_within found to g.0 g.1) hread in
    let same : g.0 ≡ h = same_at found to g.0 h g.1 hat in
    let is : h.var ≡ var = ap (λ (k : Found). k.var) (sym same) ∙ g.2 in
    subst (IsSettled root found) (same_at eqs link e x step.link_at at)
    (IsSettled-from root found e from to f h step.from_at hat step.not_before
    (found_behind eqs root found places link from e f h var to step search done hat is)
    (subst (λ (v : ℕ). Joins (e.x, e.y) f.var v) (sym is) step.joined) (met_bits f.bit h.bit e.odd test))

-- the var is found by the step
pub goes_on_to : (eqs : List Equation) (root : ℕ) (found : List Found) (places : List (Option ℕ)) (link from : ℕ)
    (e : Equation) (f g : Found) (var : ℕ) (o : Option ℕ) (more : List Found) (names : List (Option ℕ))
    → IsStep eqs root found places link from e f var → IsSearch eqs root found places → o ≡ get_or places var o
    → o ≡ None
    → g.var ≡ var → g.bit ≡ not (beq f.bit e.odd) → g.up ≡ from → g.link ≡ link
    → more ≡ found ++ g ∷ [] → names ≡ set places g.var (Some (length found))
    → GoesOn eqs root found places more names × ((x : Equation) → slice_get eqs link ≡ Some x → IsSettled root more x)
goes_on_to eqs root found places link from e f g var o more names step search oread ois gvar gbit gup glink more_is
    names_is = (
      subst (λ (xs : List Found). GoesOn eqs root found places xs names) (sym more_is)
          (subst (GoesOn eqs root found places (found ++ g ∷ [])) (sym names_is)
          (GoesOn-find eqs root found places g search (subst (λ (v : ℕ). v < length places) (sym gvar) step.within)
          (ap (slice_get places) gvar ∙ slice_get_read places (length places) var o refl step.within oread
          ∙ ap Some ois) hangs)),
      λ x at. subst (λ (xs : List Found). IsSettled root xs x) (sym more_is)
          (subst (IsSettled root (found ++ g ∷ [])) (same_at eqs link e x step.link_at at)
          (IsSettled-from root (found ++ g ∷ []) e from (length found) f g (at_append found (g ∷ []) from f step.from_at)
          (at_end found g)
          step.not_before (omega (arith, step.not_before, from_within)) joined met)),
    )
  where
    from_within : from < length found
    from_within = slice_get_within found from f step.from_at

    joined : Joins (e.x, e.y) f.var g.var
    joined = subst (λ (v : ℕ). Joins (e.x, e.y) f.var v) (sym gvar) step.joined

    tied : differ g.bit f.bit ≡ e.odd
    tied = ap (λ (b : Bool). differ b f.bit) gbit ∙ sum_bit f.bit e.odd

    met : differ f.bit g.bit ≡ e.odd
    met = differ-comm f.bit g.bit ∙ tied

    hangs : Hangs eqs root found (length found) g
    hangs = record {
      above = f;
      equation = e;
      not_before = subst (λ (k : ℕ). root ≤ k) (sym gup) step.not_before;
      earlier = subst (λ (k : ℕ). k < length found) (sym gup) from_within;
      up_at = ap (slice_get found) gup ∙ step.from_at;
      link_at = ap (slice_get eqs) glink ∙ step.link_at;
      joined = Joins-sym (e.x, e.y) f.var g.var joined;
      tied = tied;
    }

-- the bits of both vars do not meet the equation
pub odd_cycle_behind : (eqs : List Equation) (root : ℕ) (found : List Found) (places : List (Option ℕ)) (link from : ℕ)
    (e : Equation) (f h : Found) (var to : ℕ) (o : Option ℕ) (slice : List Found) (cycle : List ℕ)
    → IsStep eqs root found places link from e f var → IsSearch eqs root found places → o ≡ get_or places var o
    → o ≡ Some to
    → h ≡ get_or found to h → beq h.bit (not (beq f.bit e.odd)) ≡ false → slice ≡ found
    → ((es : List Equation) (d : Equation) (x y : Found) → IsTree es root slice → slice_get slice from ≡ Some x
    → slice_get slice to ≡ Some y
    → slice_get es link ≡ Some d → Joins (d.x, d.y) y.var x.var → (differ x.bit y.bit ≡ d.odd → ⊥)
    → IsOddCycle es cycle)
    → IsOddCycle eqs cycle
odd_cycle_behind eqs root found places link from e f h var to o slice cycle step search oread ois hread test slice_is
    cycle_of =
    let g = found_before eqs root found places link from e f var to o step search oread ois in
    let hat : slice_get found to ≡ Some h = slice_get_read found (length found) to h refl
    (slice_get_within found to g.0 g.1) hread in
    let is : h.var ≡ var = ap (λ (k : Found). k.var) (same_at found to h g.0 hat g.1) ∙ g.2 in
    cycle_of eqs e f h (subst (IsTree eqs root) (sym slice_is) search.is_tree)
    (ap (λ (xs : List Found). slice_get xs from) slice_is ∙ step.from_at)
    (ap (λ (xs : List Found). slice_get xs to) slice_is ∙ hat)
    step.link_at (Joins-sym (e.x, e.y) f.var h.var (subst (λ (v : ℕ). Joins (e.x, e.y) f.var v) (sym is) step.joined))
    (unmet_bits f.bit h.bit e.odd test)
