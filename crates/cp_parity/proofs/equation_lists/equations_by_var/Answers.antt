-- One equation more is listed.
use Rattle.std.proofs.Common.{◌≡◌, ◌++◌, ◌∷◌, [], ℕ, ◌+◌, ◌<◌, false, Some, List, get_or, length, set, slice_get, sym, ap, ◌∙◌, subst, arith, length-set}
use Rattle.std.proofs.lemmas.List.{get_or_read}
use Rattle.std.proofs.lemmas.Option.{slice_get-get_or}
use Rattle.cp_base.specs.declared.equation.Equation.{Equation}
use Rattle.cp_parity.specs.Equations.{IsOverVars}
use Rattle.cp_parity.specs.EquationLists.{AreListed}
use Rattle.cp_parity.proofs.EquationLists.{AreListed-none, AreListed-more}
use Rattle.cp_parity.proofs.equation_lists.equations_by_var.Goals as goal

-- what is read and appended twice, in the lists' own terms
listed_twice : (eqs : List Equation) (vars place : ℕ) (lists : List (List ℕ)) (e : Equation)
    (one two first second : List ℕ)
    → AreListed eqs vars place lists → IsOverVars vars e → slice_get eqs place ≡ Some e
    → first ≡ get_or lists e.x first → one ≡ first ++ place ∷ []
    → second ≡ get_or (set lists e.x one) e.y second → two ≡ second ++ place ∷ []
    → AreListed eqs vars (place + 1) (set (set lists e.x one) e.y two)
listed_twice eqs vars place lists e one two first second listed within at first_is one_is second_is two_is =
    AreListed-more eqs vars place lists e one two listed within at
    (one_is ∙ ap (λ (ps : List ℕ). ps ++ place ∷ [])
    (get_or_read lists e.x first (omega (arith, within.0, listed.size)) first_is []))
    (two_is ∙ ap (λ (ps : List ℕ). ps ++ place ∷ [])
    (get_or_read (set lists e.x one) e.y second (omega (arith, within.1, listed.size, length-set lists e.x one))
    second_is []))

abbrev nothing : Equation
nothing = record { x = 0; y = 0; odd = false }

pub loop-place-init : goal.loop-place-init
loop-place-init c = subst (AreListed c.args.eqs.now c.args.vars 0) (sym c.in_ok-lists.ensures)
    (AreListed-none c.args.eqs.now c.args.vars)

pub loop-place-preserved : goal.loop-place-preserved
loop-place-preserved c =
    let lt : c.loop-place.place < length c.args.eqs.now = omega arith in
    listed_twice c.args.eqs.now c.args.vars c.loop-place.place c.loop-place.lists.items
    (get_or c.args.eqs.now c.loop-place.place nothing)
    c.push.new.self c.push-in-loop-place.new.self c.index_mut.result.now c.index_mut-in-loop-place.result.now
    c.loop-place.invariant (c.requires c.loop-place.place nothing lt)
    (slice_get-get_or c.args.eqs.now c.loop-place.place nothing lt)
    c.index_mut.ensures.value c.in_ok-push.ensures.ok c.index_mut-in-loop-place.ensures.value c.in_ok-push-2.ensures.ok

pub returns : goal.returns
returns c = subst (λ (n : ℕ). AreListed c.args.eqs.now c.args.vars n c.loop-place.lists.items) (omega arith)
    c.loop-place.invariant
