use Rattle.std.proofs.Common.{◌≡◌, ℤ, List, ap, ◌∙◌, arith}
use mir.Val.{to_z, of_z}
use mir.Syntax.{w32}
use Rattle.std.specs.List.{position}
use Rattle.std.specs.Ordering.{int_eq}
use Rattle.indexmap.specs.IndexMap.{get}
use Rattle.std.proofs.lemmas.Int.{to_z-of_z}
use Rattle.cp_cgraph.proofs.ids.Ids.place.Goals as goal

pub returns : goal.returns
returns c =
    let same : to_z w32 (of_z w32 c.args.id) ≡ c.args.id = grind (arith, to_z-of_z) in
    c.copied.ensures ∙ c.get.ensures.value ∙ ap (λ (n : ℤ). get int_eq c.self.inside.places n) same
    ∙ c.self.invariant c.args.id ∙ ap (λ (ids : List ℤ). position (int_eq c.args.id) ids) c.self.view_is
