use Rattle.std.proofs.Common.{◌≡◌, ℕ, [], ◌∷◌, map, sym, ap, subst, ◌∙◌}
use Rattle.std.specs.Prelude.{IfOk}
use Rattle.std.specs.List.{flat_map}
use Rattle.cp_base.specs.Graphs.{PlainGraph}
use Rattle.cp_rot.specs.Systems.{IsRotation}
use Rattle.cp_board.specs.Instances.{graph}
use Rattle.cp_board.specs.Rotations.{dart}
use Rattle.cp_board.specs.Solutions.{list_in}
use Rattle.cp_sync.proofs.NumberedGraphs.{at-numbered, system-given, IsRotation-instance}
use Rattle.cp_sync.proofs.rotation.rot_of.Goals as goal

pub from_rotation-requires : goal.from_rotation-requires
from_rotation-requires g c =
    let i = g.B.Board.instance c.args.board.now in
    let s = list_in c.args.s.now in
    subst IsRotation
    (sym (system-given (graph i) s c.as_slice.result.now c.as_slice-2.result.now
    (c.as_slice.ensures.value ∙ c.in_ok-at.ensures
    ∙ ap (flat_map (λ (x : ℕ × ℕ). x.0 ∷ x.1 ∷ [])) (c.ends.ensures.value ∙ ap (λ (p : PlainGraph). p.ends) c.in_ok-g.ensures.graph)
    ∙ at-numbered (graph i) s)
    (c.as_slice-2.ensures.value ∙ c.in_ok-lists.ensures ∙ ap (map (λ v. map (dart (graph i) v) (s v))) (c.items.ensures ∙ c.in_ok-g.ensures.verts))))
    (IsRotation-instance i c.graph_of.ensures.rules s c.requires.arranged)

pub returns : goal.returns
returns g c =
    let i = g.B.Board.instance c.args.board.now in
    let s = list_in c.args.s.now in
    subst (λ r. IfOk c.from_rotation.result (λ rot. rot ≡ r))
    (system-given (graph i) s c.as_slice.result.now c.as_slice-2.result.now
    (c.as_slice.ensures.value ∙ c.in_ok-at.ensures
    ∙ ap (flat_map (λ (x : ℕ × ℕ). x.0 ∷ x.1 ∷ [])) (c.ends.ensures.value ∙ ap (λ (p : PlainGraph). p.ends) c.in_ok-g.ensures.graph)
    ∙ at-numbered (graph i) s)
    (c.as_slice-2.ensures.value ∙ c.in_ok-lists.ensures ∙ ap (map (λ v. map (dart (graph i) v) (s v))) (c.items.ensures ∙ c.in_ok-g.ensures.verts)))
    c.from_rotation.ensures
