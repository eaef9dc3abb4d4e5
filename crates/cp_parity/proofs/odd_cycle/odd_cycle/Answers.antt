-- Up to the root, down and back.
use Rattle.std.proofs.Common.{◌≡◌, ◌++◌, ◌∷◌, [], ℕ, List, get_or, Some, slice_get, sym, ap, ◌∙◌, subst, arith}
use Rattle.std.proofs.lemmas.Option.{slice_get-get_or}
use Rattle.cp_parity.specs.declared.found.Found.{Found}
use Rattle.cp_parity.specs.Equations.{IsOddCycle}
use Rattle.cp_parity.proofs.Walks.{IsOddCycle-from}
use Rattle.cp_parity.proofs.odd_cycle.odd_cycle.Goals as goal

pub returns : goal.returns
returns c eqs e f g tree fat gat at joined ne =
    let r : Found = get_or c.args.found.now c.args.root f in
    let rat : slice_get c.args.found.now c.args.root ≡ Some r = slice_get-get_or c.args.found.now c.args.root f
    (omega (arith, c.requires.from_within, c.requires.from_below)) in
    subst (IsOddCycle eqs)
    (sym (c.in_ok-push.ensures.ok ∙ ap (λ (xs : List ℕ). xs ++ c.args.link ∷ []) c.in_ok-append_reversed.ensures))
    (IsOddCycle-from eqs c.args.link e f g r c.in_ok-cycle.cycle c.in_ok-down.down
    (c.in_ok-cycle.ensures eqs f r tree fat rat) (c.in_ok-down.ensures eqs g r tree gat rat) at joined ne)
