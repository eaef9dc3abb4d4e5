-- A search from a var, where it was not found before.
use Rattle.std.proofs.Common.{◌≡◌, ℕ, Bool, false, Option, Some, None, is_some, length, sym, refl, ap, ◌∙◌, arith}
use Rattle.std.proofs.lemmas.Bool.{false≢true}
use Rattle.std.proofs.lemmas.Option.{slice_get_read}
use Rattle.cp_parity.specs.declared.found.Found.{Found}
use Rattle.cp_parity.proofs.SearchSteps.{IsFound-named, IsFound-stay, IsFound-next, AreDone-before, begun}
use Rattle.cp_parity.proofs.solving.visit.Goals as goal

-- what is not there is nothing
none_of : (o : Option ℕ) (b : Bool) → b ≡ is_some o → b ≡ false → o ≡ None
none_of None b is off = refl
none_of (Some x) b is off = absurd (false≢true (sym off ∙ is))

pub returns-then-is_some-clause-more : goal.returns-then-is_some-clause-more
returns-then-is_some-clause-more c =
    let at = slice_get_read c.args.search.now.places.items (length c.args.search.now.places.items) c.args.var
    c.index.result.now refl c.requires.var_within c.index.ensures in
    IsFound-next c.args.search.now.found.items c.args.var c.requires.lower
    (IsFound-named c.args.search.now.found.items c.args.search.now.places.items c.args.var c.index.result.now
    c.requires.placed at (sym c.is_some.ensures ∙ c.if-is_some.true))

pub run-requires-clause-is_search : goal.run-requires-clause-is_search
run-requires-clause-is_search c =
    let f : Found = record { var = c.args.var; bit = false; up = c.len-root.result; link = 0 } in
    let at = slice_get_read c.args.search.now.places.items (length c.args.search.now.places.items) c.args.var
    c.index.result.now refl c.requires.var_within c.index.ensures
    ∙ ap (λ (o : Option ℕ). Some o) (none_of c.index.result.now c.is_some.result c.is_some.ensures
    c.if-is_some.false) in
    (begun c.args.eqs.now c.args.search.now.found.items c.args.search.now.places.items f c.len-root.result
    c.find.new.search.found.items c.find.new.search.places.items
    c.requires.placed c.requires.done c.requires.var_within at (omega (arith, c.len-root.ensures))
    c.in_ok-find.ensures.found c.in_ok-find.ensures.places).0

pub run-requires-clause-done : goal.run-requires-clause-done
run-requires-clause-done c =
    let f : Found = record { var = c.args.var; bit = false; up = c.len-root.result; link = 0 } in
    let at = slice_get_read c.args.search.now.places.items (length c.args.search.now.places.items) c.args.var
    c.index.result.now refl c.requires.var_within c.index.ensures
    ∙ ap (λ (o : Option ℕ). Some o) (none_of c.index.result.now c.is_some.result c.is_some.ensures
    c.if-is_some.false) in
    (begun c.args.eqs.now c.args.search.now.found.items c.args.search.now.places.items f c.len-root.result
    c.find.new.search.found.items c.find.new.search.places.items
    c.requires.placed c.requires.done c.requires.var_within at (omega (arith, c.len-root.ensures))
    c.in_ok-find.ensures.found c.in_ok-find.ensures.places).1

pub returns-clause-done : goal.returns-clause-done
returns-clause-done c = AreDone-before c.args.eqs.now c.len-root.result c.run.new.search.found.items
    c.in_ok-run.ensures.done

pub returns-clause-more : goal.returns-clause-more
returns-clause-more c =
    let f : Found = record { var = c.args.var; bit = false; up = c.len-root.result; link = 0 } in
    let at = slice_get_read c.args.search.now.places.items (length c.args.search.now.places.items) c.args.var
    c.index.result.now refl c.requires.var_within c.index.ensures
    ∙ ap (λ (o : Option ℕ). Some o) (none_of c.index.result.now c.is_some.result c.is_some.ensures
    c.if-is_some.false) in
    let start = begun c.args.eqs.now c.args.search.now.found.items c.args.search.now.places.items f c.len-root.result
    c.find.new.search.found.items c.find.new.search.places.items
    c.requires.placed c.requires.done c.requires.var_within at (omega (arith, c.len-root.ensures))
    c.in_ok-find.ensures.found c.in_ok-find.ensures.places in
    IsFound-next c.run.new.search.found.items c.args.var
    (λ y lt. IsFound-stay c.args.search.now.found.items c.run.new.search.found.items y
    (λ k g gat. c.in_ok-run.ensures.goes_on.stay k g (start.3 k g gat)) (c.requires.lower y lt))
    (IsFound-stay c.find.new.search.found.items c.run.new.search.found.items c.args.var
    c.in_ok-run.ensures.goes_on.stay start.2)
