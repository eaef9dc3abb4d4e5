-- A step along an equation.
use Rattle.std.proofs.Common.{◌<◌, false, List, length, get_or, sym, refl, subst}
use Rattle.std.proofs.lemmas.Option.{slice_get-get_or, slice_get_within}
use Rattle.cp_base.specs.declared.equation.Equation.{Equation}
use Rattle.cp_parity.specs.declared.found.Found.{Found}
use Rattle.cp_parity.specs.Search.{AreRooted}
use Rattle.cp_parity.proofs.SearchSteps.{IsTree-rooted}
use Rattle.cp_parity.proofs.Following.{IsStep-from, found_before, found_behind, settled_before, goes_on_to, odd_cycle_behind}
use Rattle.cp_parity.proofs.search.follow.Goals as goal

abbrev nothing : Equation
nothing = record { x = 0; y = 0; odd = false }

pub returns-then-index-bit-clause-settled : goal.returns-then-index-bit-clause-settled
returns-then-index-bit-clause-settled c =
    let e : Equation = get_or c.args.eqs.now c.args.link nothing in
    let step = IsStep-from c.args.eqs.now c.args.root c.args.search.now.found.items c.args.search.now.places.items
    c.args.link c.args.from e c.index-above.result.now c.other_var-var.result
    c.requires.vars_within (slice_get-get_or c.args.eqs.now c.args.link nothing c.requires.link_within)
    c.requires.from_within c.index-above.ensures c.requires.below c.other_var-var.ensures in
    settled_before c.args.eqs.now c.args.root c.args.search.now.found.items c.args.search.now.places.items c.args.link
    c.args.from e c.index-above.result.now c.index-in-Some.result.now c.other_var-var.result c.in-Some.to
    c.index.result.now
    step c.requires.is_search c.requires.done c.index.ensures c.in-Some.is c.index-in-Some.ensures c.if-index-bit.true

pub odd_cycle-requires-clause-rooted : goal.odd_cycle-requires-clause-rooted
odd_cycle-requires-clause-rooted c =
    subst (AreRooted c.args.root) (sym c.as_slice.ensures.value)
    (IsTree-rooted c.args.eqs.now c.args.root c.args.search.now.found.items c.requires.is_search.is_tree)

pub odd_cycle-requires-clause-to_within : goal.odd_cycle-requires-clause-to_within
odd_cycle-requires-clause-to_within c =
    let e : Equation = get_or c.args.eqs.now c.args.link nothing in
    let step = IsStep-from c.args.eqs.now c.args.root c.args.search.now.found.items c.args.search.now.places.items
    c.args.link c.args.from e c.index-above.result.now c.other_var-var.result
    c.requires.vars_within (slice_get-get_or c.args.eqs.now c.args.link nothing c.requires.link_within)
    c.requires.from_within c.index-above.ensures c.requires.below c.other_var-var.ensures in
    let g = found_before c.args.eqs.now c.args.root c.args.search.now.found.items c.args.search.now.places.items
    c.args.link c.args.from e c.index-above.result.now c.other_var-var.result c.in-Some.to c.index.result.now
    step c.requires.is_search c.index.ensures c.in-Some.is in
    subst (λ (xs : List Found). c.in-Some.to < length xs) (sym c.as_slice.ensures.value)
    (slice_get_within c.args.search.now.found.items c.in-Some.to g.0 g.1)

pub odd_cycle-requires-clause-to_below : goal.odd_cycle-requires-clause-to_below
odd_cycle-requires-clause-to_below c =
    let e : Equation = get_or c.args.eqs.now c.args.link nothing in
    let step = IsStep-from c.args.eqs.now c.args.root c.args.search.now.found.items c.args.search.now.places.items
    c.args.link c.args.from e c.index-above.result.now c.other_var-var.result
    c.requires.vars_within (slice_get-get_or c.args.eqs.now c.args.link nothing c.requires.link_within)
    c.requires.from_within c.index-above.ensures c.requires.below c.other_var-var.ensures in
    let g = found_before c.args.eqs.now c.args.root c.args.search.now.found.items c.args.search.now.places.items
    c.args.link c.args.from e c.index-above.result.now c.other_var-var.result c.in-Some.to c.index.result.now
    step c.requires.is_search c.index.ensures c.in-Some.is in
    found_behind c.args.eqs.now c.args.root c.args.search.now.found.items c.args.search.now.places.items c.args.link
    c.args.from e c.index-above.result.now g.0 c.other_var-var.result c.in-Some.to
    step c.requires.is_search c.requires.done g.1 g.2

pub returns-in_ok-find-in-None-clause-goes_on : goal.returns-in_ok-find-in-None-clause-goes_on
returns-in_ok-find-in-None-clause-goes_on c =
    let e : Equation = get_or c.args.eqs.now c.args.link nothing in
    let step = IsStep-from c.args.eqs.now c.args.root c.args.search.now.found.items c.args.search.now.places.items
    c.args.link c.args.from e c.index-above.result.now c.other_var-var.result
    c.requires.vars_within (slice_get-get_or c.args.eqs.now c.args.link nothing c.requires.link_within)
    c.requires.from_within c.index-above.ensures c.requires.below c.other_var-var.ensures in
    (goes_on_to c.args.eqs.now c.args.root c.args.search.now.found.items c.args.search.now.places.items c.args.link
    c.args.from e c.index-above.result.now _ c.other_var-var.result c.index.result.now _ _
    step c.requires.is_search c.index.ensures c.in-None.is refl refl refl refl c.in_ok-find-in-None.ensures.found
    c.in_ok-find-in-None.ensures.places).0

pub returns-in_ok-find-in-None-clause-settled : goal.returns-in_ok-find-in-None-clause-settled
returns-in_ok-find-in-None-clause-settled c =
    let e : Equation = get_or c.args.eqs.now c.args.link nothing in
    let step = IsStep-from c.args.eqs.now c.args.root c.args.search.now.found.items c.args.search.now.places.items
    c.args.link c.args.from e c.index-above.result.now c.other_var-var.result
    c.requires.vars_within (slice_get-get_or c.args.eqs.now c.args.link nothing c.requires.link_within)
    c.requires.from_within c.index-above.ensures c.requires.below c.other_var-var.ensures in
    (goes_on_to c.args.eqs.now c.args.root c.args.search.now.found.items c.args.search.now.places.items c.args.link
    c.args.from e c.index-above.result.now _ c.other_var-var.result c.index.result.now _ _
    step c.requires.is_search c.index.ensures c.in-None.is refl refl refl refl c.in_ok-find-in-None.ensures.found
    c.in_ok-find-in-None.ensures.places).1

pub returns-in_ok-cycle-in-Some-clause-odd_cycle : goal.returns-in_ok-cycle-in-Some-clause-odd_cycle
returns-in_ok-cycle-in-Some-clause-odd_cycle c =
    let e : Equation = get_or c.args.eqs.now c.args.link nothing in
    let step = IsStep-from c.args.eqs.now c.args.root c.args.search.now.found.items c.args.search.now.places.items
    c.args.link c.args.from e c.index-above.result.now c.other_var-var.result
    c.requires.vars_within (slice_get-get_or c.args.eqs.now c.args.link nothing c.requires.link_within)
    c.requires.from_within c.index-above.ensures c.requires.below c.other_var-var.ensures in
    odd_cycle_behind c.args.eqs.now c.args.root c.args.search.now.found.items c.args.search.now.places.items
    c.args.link c.args.from e c.index-above.result.now c.index-in-Some.result.now c.other_var-var.result
    c.in-Some.to c.index.result.now c.as_slice.result.now c.in_ok-cycle-in-Some.cycle
    step c.requires.is_search c.index.ensures c.in-Some.is c.index-in-Some.ensures c.if-index-bit.false
    c.as_slice.ensures.value c.in_ok-cycle-in-Some.ensures
