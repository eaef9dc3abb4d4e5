use Rattle.std.proofs.Common.{◌≡◌, ◌∙◌, ◌++◌, ℕ, List, ap, ap₂, append-nil, not, set, subst, sym, true}
use Rattle.cp_lists.specs.CyclicLists.{Has}
use Rattle.cp_faces.specs.Twins.{twin}
use Rattle.cp_rot.specs.Systems.{list_of, next, vertex_of}
use Rattle.cp_rot.proofs.Rotations.{next_stands}
use Rattle.cp_rotlaw.specs.SideOrders.{in_side}
use Rattle.cp_rotlaw.specs.SideStates.{IsMerging, vertices_left}
use Rattle.cp_rotlaw.proofs.SideCode.{closed_without_corner}
use Rattle.cp_rotlaw.proofs.SideCorners.{apart-IsMerging}
use Rattle.cp_rotlaw.proofs.SideMerging.{left_are, left_have}
use Rattle.cp_rotlaw.proofs.StarCode.{far_within}
use Rattle.cp_rotlaw.proofs.sides.next_merge.Goals as goal

pub returns-in-Some : goal.returns-in-Some
returns-in-Some c =
    let r = c.args.a.now in
    let is = c.is_rotation.ensures.rotation in
    let side = c.args.side.now in
    let merged = c.args.merged.now in
    let sides = c.requires.sides in
    let k = c.in-Some.ensures in
    let y : ℕ = next r c.in-Some.x in
    let w : ℕ = vertex_of r (twin y) in
    let same : c.far_end-w.result ≡ w = c.far_end-w.ensures.value ∙ ap (λ d. vertex_of r (twin d)) c.next.ensures in
    let at_y = next_stands r is c.in-Some.x k.within in
    let left : Has w (vertices_left r side merged) = left_have r is side sides merged w (far_within r is y at_y.0).1
    (sides.across y at_y.0 ∙ ap not (ap (in_side side) at_y.1 ∙ k.out)) k.second in (
      subst (λ v. Has v (vertices_left r side merged)) (sym same) left,
      subst (λ v. IsMerging r side (set merged v true) c.in_ok-more.more.items) (sym same) c.in_ok-more.ensures,
    )

pub list-requires : goal.list-requires
list-requires c =
    (left_are c.args.a.now c.is_rotation.ensures.rotation c.args.side.now c.requires.sides c.args.merged.now
    c.in-Some-first_left.w c.in-Some-first_left.ensures).0

pub returns-in_ok-more-in-Some-first_left : goal.returns-in_ok-more-in-Some-first_left
returns-in_ok-more-in-Some-first_left c =
    let r = c.args.a.now in
    let side = c.args.side.now in
    let merged = c.args.merged.now in
    let row = c.args.row.now in
    let w = c.in-Some-first_left.w in
    let left = c.in-Some-first_left.ensures in
    let list : c.items.result.now ≡ list_of r w = c.items.ensures ∙ c.list.ensures in
    let made : c.in_ok-more-in-Some-first_left.more.items ≡ row ++ list_of r w =
    c.in_ok-more-in-Some-first_left.ensures
    ∙ ap₂ (λ (xs ys : List ℕ). xs ++ ys) (append-nil row) (append-nil c.items.result.now ∙ list) in (
      left,
      subst (IsMerging r side (set merged w true)) (sym made)
          (apart-IsMerging r c.is_rotation.ensures.rotation side c.requires.sides merged row c.requires.state
          (closed_without_corner r side merged c.in_default.ensures) w left),
    )
