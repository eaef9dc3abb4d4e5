use Rattle.std.proofs.Common.{◌≡◌, ◌∙◌, ◌/◌, ℕ, List, ap, map, subst, sym}
use Rattle.std.proofs.lemmas.Result.{IfOk-weaker}
use Rattle.cp_rotlaw.specs.SideOrders.{IsSideOrder}
use Rattle.cp_rotlaw.proofs.SideEnds.{IsSideOrder-merged}
use Rattle.cp_rotlaw.proofs.sides.merge_side.Goals as goal

pub returns : goal.returns
returns c =
    let r = c.args.a.now in
    let m = c.in_ok-row.ensures in
    let order = IsSideOrder-merged r c.is_rotation.ensures.rotation c.args.side.now c.requires.sides m.merged
    c.in_ok-row.row.items m.state m.none c.requires.plane in
    let P : List ℕ → Type 0 = λ list. list ≡ map (λ d. d / 2) c.as_slice.result.now in
    IfOk-weaker c.edges_of.result P (IsSideOrder r c.args.side.now)
    (λ list e. subst (IsSideOrder r c.args.side.now) (sym (e ∙ ap (map (λ d. d / 2)) c.as_slice.ensures.value)) order)
    c.edges_of.ensures
