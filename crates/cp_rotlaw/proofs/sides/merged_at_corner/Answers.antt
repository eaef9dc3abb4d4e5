use Rattle.std.proofs.Common.{◌≡◌, ◌∙◌, ◌+◌, ◌<◌, ◌++◌, ℕ, List, ap, ap₂, arith, length, set, slice_index, subst, suc, sym, true}
use Rattle.std.proofs.lemmas.Result.{IfOk-weaker}
use Rattle.cp_lists.specs.CyclicLists.{Has}
use Rattle.cp_faces.specs.Twins.{twin}
use Rattle.cp_rot.specs.Systems.{darts, list_of, next, vertex_of}
use Rattle.cp_rot.proofs.ListSystems.{Listed-system}
use Rattle.cp_rot.proofs.Rotations.{next_stands}
use Rattle.cp_rotlaw.specs.SideStates.{IsMerging, turned_at}
use Rattle.cp_rotlaw.proofs.SideCorners.{corner-IsMerging}
use Rattle.cp_rotlaw.proofs.StarCode.{far_within}
use Rattle.cp_rotlaw.proofs.sides.merged_at_corner.Goals as goal

pub at-requires : goal.at-requires
at-requires c =
    let r = c.args.a.now in
    let is = c.is_rotation.ensures.rotation in
    let e : c.other_dart-twin.result ≡ twin (next r c.args.x) = c.other_dart-twin.ensures ∙ ap twin c.next.ensures in
    subst (λ d. d < darts r) (sym e)
    (far_within r is (next r c.args.x) (next_stands r is c.args.x c.requires.corner.within).0).0

pub place-requires-2 : goal.place-requires-2
place-requires-2 c =
    let r = c.args.a.now in
    let is = c.is_rotation.ensures.rotation in
    let t = c.other_dart-twin.result in
    let e : t ≡ twin (next r c.args.x) = c.other_dart-twin.ensures ∙ ap twin c.next.ensures in
    let below : t < darts r = subst (λ d. d < darts r) (sym e)
    (far_within r is (next r c.args.x) (next_stands r is c.args.x c.requires.corner.within).0).0 in
    let row : c.items-list.result.now ≡ list_of r (vertex_of r t) =
    c.items-list.ensures ∙ c.list.ensures ∙ ap (list_of r) c.at.ensures in
    subst (Has t) (sym row) ((Listed-system r is).own t below)

pub returns : goal.returns
returns c =
    let r = c.args.a.now in
    let is = c.is_rotation.ensures.rotation in
    let k = c.requires.corner in
    let e : c.other_dart-twin.result ≡ twin (next r c.args.x) = c.other_dart-twin.ensures ∙ ap twin c.next.ensures in
    let w : ℕ = vertex_of r (twin (next r c.args.x)) in
    let row : c.items-list.result.now ≡ list_of r w =
    c.items-list.ensures ∙ c.list.ensures ∙ ap (list_of r) (c.at.ensures ∙ ap (vertex_of r) e) in
    let more = corner-IsMerging r is c.args.side.now c.requires.sides c.args.merged.now c.args.row.now c.requires.state
    c.args.x c.place.result c.place-2.result k.within k.out k.first k.second c.place.ensures.within
    (c.place.ensures.found ∙ c.other_dart.ensures)
    (subst (λ (xs : List ℕ). c.place-2.result < length xs) row c.place-2.ensures.within)
    (subst (λ (xs : List ℕ). slice_index xs c.place-2.result ≡ twin (next r c.args.x)) row
    (c.place-2.ensures.found ∙ e)) in
    let behind : c.place-2.result + 1 ≡ suc c.place-2.result = omega arith in
    let P : List ℕ → Type 0 = IsMerging r c.args.side.now (set c.args.merged.now w true) in
    IfOk-weaker c.turned_pair.result _ _
    (λ pair made. subst P
    (sym (made ∙ ap₂ (λ i xs. turned_at c.place.result c.args.row.now ++ turned_at i xs) behind row)) more)
    c.turned_pair.ensures
