use Rattle.std.proofs.Common.{ℕ, map, subst, ap, ◌∙◌, arith}
use Rattle.cp_board.specs.Solutions.{with_list}
use Rattle.cp_sync.specs.Places.{IsLowerPlace}
use Rattle.cp_sync.proofs.NamedRows.{live_row, with_list-place}
use Rattle.cp_sync.proofs.solution.Solution.set_list.Goals as goal

pub index_mut-requires : goal.index_mut-requires
index_mut-requires c =
    let names = c.self.inside.names.items in
    let low = subst (λ ns. IsLowerPlace (map (λ (n : ℕ). n) ns) c.args.name c.lower_place-place.result) c.as_slice.ensures.value c.lower_place-place.ensures in
    let at = live_row c.args.self.now names c.self.inside.lists.items c.args.name c.lower_place-place.result c.self.view_is c.self.invariant.0 c.self.invariant.1 c.requires low in
    omega (arith, at.0, c.self.invariant.0, c.self.inside.lists.ok)

pub returns : goal.returns
returns c =
    let names = c.self.inside.names.items in
    let lists = c.self.inside.lists.items in
    let low = subst (λ ns. IsLowerPlace (map (λ (n : ℕ). n) ns) c.args.name c.lower_place-place.result) c.as_slice.ensures.value c.lower_place-place.ensures in
    let at = live_row c.args.self.now names lists c.args.name c.lower_place-place.result c.self.view_is c.self.invariant.0 c.self.invariant.1 c.requires low in
    with_list-place names lists c.lower_place-place.result c.args.name c.args.list c.self.invariant.0 c.self.invariant.1 at.0 at.1
    ∙ ap (λ rows. with_list c.args.name c.args.list rows) c.self.view_is
