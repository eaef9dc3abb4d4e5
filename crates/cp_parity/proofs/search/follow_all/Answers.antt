-- All equations of a var are followed.
use Rattle.std.proofs.Common.{◌≡◌, [], ℕ, ◌<◌, Option, Some, List, get_or, length, slice_get, sym, ap, ◌∙◌, subst, ⊎_elim, refl, rules, arith}
use Rattle.std.proofs.lemmas.Bool.{cases_eq}
use Rattle.std.proofs.lemmas.List.{get_or_default, get_or_read}
use Rattle.std.proofs.lemmas.Option.{slice_get_read, slice_get_within}
use Rattle.cp_base.specs.declared.equation.Equation.{Equation}
use Rattle.cp_parity.specs.declared.found.Found.{Found}
use Rattle.cp_parity.specs.Equations.{Touches}
use Rattle.cp_parity.specs.EquationLists.{AreOf, AreListed}
use Rattle.cp_parity.specs.Search.{ArePlaced}
use Rattle.cp_parity.proofs.LookUps.{same_at}
use Rattle.cp_parity.proofs.SearchSteps.{var_within, GoesOn-same, GoesOn-trans, AreDone-stay, AreDone-next, IsSettled-stay, same_found}
use Rattle.cp_parity.proofs.search.follow_all.Goals as goal

-- the links are the list of the var
links_of : (eqs : List Equation) (found : List Found) (places : List (Option ℕ)) (lists : List (List ℕ)) (from : ℕ)
    (f : Found) (links list : List ℕ)
    → ArePlaced found places → AreListed eqs (length places) (length eqs) lists → slice_get found from ≡ Some f
    → list ≡ get_or lists f.var list → links ≡ list → AreOf eqs (length eqs) f.var links
links_of eqs found places lists from f links list placed listed at list_is links_is =
    let within : f.var < length places = var_within found places from f placed at in
    subst (AreOf eqs (length eqs) f.var) (sym (links_is ∙ get_or_read lists f.var list
    (omega (arith, listed.size, within)) list_is [])) (listed.each f.var within)

-- the link at a place tells an equation of the var
link_at : (eqs : List Equation) (x : ℕ) (links : List ℕ) (i : ℕ) → AreOf eqs (length eqs) x links → i < length links
    → (e : Equation) × (slice_get eqs (get_or links i 0) ≡ Some e) × Touches e x
link_at eqs x links i of lt = of.within (get_or links i 0) (i, lt, get_or_default links i (get_or links i 0) 0 lt)

pub bounds-lists-var : goal.bounds-lists-var
bounds-lists-var c =
    let at = slice_get_read c.args.search.now.found.items (length c.args.search.now.found.items) c.args.from
    c.index.result.now refl c.requires.from_within c.index.ensures in
    let within : c.index.result.now.var < length c.args.search.now.places.items = var_within
    c.args.search.now.found.items c.args.search.now.places.items c.args.from c.index.result.now
    c.requires.is_search.are_placed at in
    omega (arith, c.requires.listed.size)

pub offset_bounds-lists-var : goal.offset_bounds-lists-var
offset_bounds-lists-var c =
    let at = slice_get_read c.args.search.now.found.items (length c.args.search.now.found.items) c.args.from
    c.index.result.now refl c.requires.from_within c.index.ensures in
    let within : c.index.result.now.var < length c.args.search.now.places.items = var_within
    c.args.search.now.found.items c.args.search.now.places.items c.args.from c.index.result.now
    c.requires.is_search.are_placed at in
    let below : c.index.result.now.var < length c.args.lists.now = omega (arith, c.requires.listed.size) in
    search rules

pub loop-link-init : goal.loop-link-init
loop-link-init c = record {
  goes_on = GoesOn-same c.args.eqs.now c.args.root c.args.search.now.found.items c.args.search.now.places.items
      c.requires.is_search;
  settled = λ j e lt at. absurd (omega arith);
}

pub follow-requires-clause-from_within : goal.follow-requires-clause-from_within
follow-requires-clause-from_within c =
    let at = slice_get_read c.args.search.now.found.items (length c.args.search.now.found.items) c.args.from
    c.index.result.now refl c.requires.from_within c.index.ensures in
    slice_get_within c.loop-link.search.found.items c.args.from c.index.result.now
    (c.loop-link.invariant.goes_on.stay c.args.from c.index.result.now at)

pub follow-requires-clause-link_within : goal.follow-requires-clause-link_within
follow-requires-clause-link_within c =
    let at = slice_get_read c.args.search.now.found.items (length c.args.search.now.found.items) c.args.from
    c.index.result.now refl c.requires.from_within c.index.ensures in
    let of = links_of c.args.eqs.now c.args.search.now.found.items c.args.search.now.places.items c.args.lists.now
    c.args.from c.index.result.now c.items-links.result.now c.index-lists-var.result
    c.requires.is_search.are_placed c.requires.listed at c.index-lists-var.is c.items-links.ensures in
    let l = link_at c.args.eqs.now c.index.result.now.var c.items-links.result.now c.loop-link.link-index of
    c.loop-link-test.true in
    slice_get_within c.args.eqs.now (get_or c.items-links.result.now c.loop-link.link-index 0) l.0 l.1

pub follow-requires-clause-done : goal.follow-requires-clause-done
follow-requires-clause-done c =
    AreDone-stay c.args.eqs.now c.args.root c.args.search.now.found.items c.loop-link.search.found.items c.args.from
    c.loop-link.invariant.goes_on.stay (omega (arith, c.requires.from_within)) c.requires.done

pub follow-requires-clause-touches : goal.follow-requires-clause-touches
follow-requires-clause-touches c e f eat fat =
    let at = slice_get_read c.args.search.now.found.items (length c.args.search.now.found.items) c.args.from
    c.index.result.now refl c.requires.from_within c.index.ensures in
    let of = links_of c.args.eqs.now c.args.search.now.found.items c.args.search.now.places.items c.args.lists.now
    c.args.from c.index.result.now c.items-links.result.now c.index-lists-var.result
    c.requires.is_search.are_placed c.requires.listed at c.index-lists-var.is c.items-links.ensures in
    let l = link_at c.args.eqs.now c.index.result.now.var c.items-links.result.now c.loop-link.link-index of
    c.loop-link-test.true in
    subst (λ (g : Found). Touches e g.var) (same_found c.args.search.now.found.items c.loop-link.search.found.items
    c.args.from c.index.result.now f c.loop-link.invariant.goes_on.stay at fat)
    (subst (λ (d : Equation). Touches d c.index.result.now.var)
    (same_at c.args.eqs.now (get_or c.items-links.result.now c.loop-link.link-index 0) l.0 e l.1 eat) l.2)

pub loop-link-preserved : goal.loop-link-preserved
loop-link-preserved c = record {
  goes_on = GoesOn-trans c.args.eqs.now c.args.root c.args.search.now.found.items c.args.search.now.places.items
      c.loop-link.search.found.items c.loop-link.search.places.items
      c.follow.new.search.found.items c.follow.new.search.places.items c.loop-link.invariant.goes_on
      c.in_ok-follow.ensures.goes_on;
  settled = λ j e lt at. ⊎_elim
      (λ same. c.in_ok-follow.ensures.settled e (ap
      (λ (k : ℕ). slice_get c.args.eqs.now (get_or c.items-links.result.now k 0)) (sym same) ∙ at))
      (λ ne. IsSettled-stay c.args.root c.loop-link.search.found.items c.follow.new.search.found.items e
      c.in_ok-follow.ensures.goes_on.stay
      (c.loop-link.invariant.settled j e (omega arith) at))
      (cases_eq j c.loop-link.link-index);
}

pub returns-clause-done : goal.returns-clause-done
returns-clause-done c =
    let at = slice_get_read c.args.search.now.found.items (length c.args.search.now.found.items) c.args.from
    c.index.result.now refl c.requires.from_within c.index.ensures in
    let of = links_of c.args.eqs.now c.args.search.now.found.items c.args.search.now.places.items c.args.lists.now
    c.args.from c.index.result.now c.items-links.result.now c.index-lists-var.result
    c.requires.is_search.are_placed c.requires.listed at c.index-lists-var.is c.items-links.ensures in
    AreDone-next c.args.eqs.now c.args.root c.loop-link.search.found.items c.args.from c.index.result.now
    c.items-links.result.now
    (AreDone-stay c.args.eqs.now c.args.root c.args.search.now.found.items c.loop-link.search.found.items c.args.from
    c.loop-link.invariant.goes_on.stay (omega (arith, c.requires.from_within)) c.requires.done)
    (c.loop-link.invariant.goes_on.stay c.args.from c.index.result.now at) of
    (λ j e lt eat. c.loop-link.invariant.settled j e (omega (arith, c.loop-link-test.false)) eat)
