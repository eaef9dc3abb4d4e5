use Rattle.std.proofs.Common.{ℕ, [], map, subst, ap, ◌∙◌, arith}
use Rattle.std.proofs.lemmas.List.{get_or_default}
use Rattle.cp_board.specs.Solutions.{list_in}
use Rattle.cp_sync.specs.Places.{IsLowerPlace}
use Rattle.cp_sync.proofs.NamedRows.{live_row, list_in-place}
use Rattle.cp_sync.proofs.solution.Solution.list_of.Goals as goal

pub index-requires : goal.index-requires
index-requires c =
    let names = c.self.inside.names.items in
    let low = subst (λ ns. IsLowerPlace (map (λ (n : ℕ). n) ns) c.args.name c.lower_place.result) c.as_slice.ensures.value c.lower_place.ensures in
    let at = live_row c.args.self.now names c.self.inside.lists.items c.args.name c.lower_place.result c.self.view_is c.self.invariant.0 c.self.invariant.1 c.requires low in
    omega (arith, at.0, c.self.invariant.0, c.self.inside.lists.ok)

pub returns : goal.returns
returns c =
    let names = c.self.inside.names.items in
    let lists = c.self.inside.lists.items in
    let low = subst (λ ns. IsLowerPlace (map (λ (n : ℕ). n) ns) c.args.name c.lower_place.result) c.as_slice.ensures.value c.lower_place.ensures in
    let at = live_row c.args.self.now names lists c.args.name c.lower_place.result c.self.view_is c.self.invariant.0 c.self.invariant.1 c.requires low in
    c.index.ensures
    ∙ get_or_default lists c.lower_place.result c.index.result.now [] (omega (arith, at.0, c.self.invariant.0))
    ∙ list_in-place names lists c.lower_place.result c.args.name c.self.invariant.0 c.self.invariant.1 at.0 at.1
    ∙ ap (λ rows. list_in rows c.args.name) c.self.view_is
