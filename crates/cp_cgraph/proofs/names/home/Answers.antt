use Rattle.std.proofs.Common.{◌≡◌, ℤ, List, sym, ap, ◌∙◌, arith}
use mir.Val.{to_z, of_z}
use mir.Syntax.{w32}
use Rattle.std.specs.List.{position}
use Rattle.std.specs.Ordering.{int_eq}
use Rattle.std.proofs.lemmas.Int.{to_z-of_z}
use Rattle.cp_cgraph.proofs.NameSteps.{home_none, home_some}
use Rattle.cp_cgraph.proofs.names.home.Goals as goal

pub returns-in-None : goal.returns-in-None
returns-in-None c =
    let same : to_z w32 (of_z w32 c.args.id) ≡ c.args.id = grind (arith, to_z-of_z) in
    let found = c.place.ensures ∙ ap (λ (n : ℤ). position (int_eq n) c.args.named.now) same
    ∙ ap (λ (ids : List ℤ). position (int_eq c.args.id) ids) c.requires in
    home_none c.args.names.now c.args.id (sym found ∙ c.in-None.is)

pub returns-in-Some : goal.returns-in-Some
returns-in-Some c =
    let same : to_z w32 (of_z w32 c.args.id) ≡ c.args.id = grind (arith, to_z-of_z) in
    let found = c.place.ensures ∙ ap (λ (n : ℤ). position (int_eq n) c.args.named.now) same
    ∙ ap (λ (ids : List ℤ). position (int_eq c.args.id) ids) c.requires in
    home_some c.args.names.now c.args.id c.in-Some.place (sym found ∙ c.in-Some.is)
