-- The vertices of the darts and the lists are those of the system.
use Rattle.std.proofs.Common.{ℕ, List, ◌++◌, ◌∙◌, map, sym, ap, ap₂, subst, subst₂}
use Rattle.std.specs.List.{All, Contains}
use Rattle.cp_board.specs.Solutions.{list_in}
use Rattle.cp_rot.specs.Systems.{IsRotation}
use Rattle.cp_rot.specs.Tables.{system_of}
use Rattle.cp_join.specs.InnerSystems.{hat_darts}
use Rattle.cp_join.proofs.inner_systems.inner_rot.Goals as goal

pub push_lists-requires-clause-live : goal.push_lists-requires-clause-live
push_lists-requires-clause-live c =
    subst (All (λ v. All (Contains c.args.hats.now) (list_in c.args.after.now v))) (sym c.items.ensures)
    c.requires.first_edges

pub push_lists-requires-2-clause-names : goal.push_lists-requires-2-clause-names
push_lists-requires-2-clause-names c =
    subst (All (Contains (map (λ row. row.0) c.args.after.now))) (sym c.items-2.ensures) c.requires.second_names

pub push_lists-requires-2-clause-live : goal.push_lists-requires-2-clause-live
push_lists-requires-2-clause-live c =
    subst (All (λ v. All (Contains c.args.hats.now) (list_in c.args.after.now v))) (sym c.items-2.ensures)
    c.requires.second_edges

pub from_rotation-requires : goal.from_rotation-requires
from_rotation-requires c =
    let darts : ℕ → ℕ → List ℕ = λ end v. hat_darts c.args.hats.now end (list_in c.args.after.now v) in
    subst₂ (λ at lists. IsRotation (system_of at lists)) (sym (c.as_slice.ensures.value ∙ c.in_ok-at.ensures))
    (sym (c.as_slice-2.ensures.value ∙ c.in_ok-push_lists-2.ensures
    ∙ ap₂ (λ us ws. us ++ ws)
    (c.in_ok-push_lists.ensures
    ∙ ap₂ (λ us ws. us ++ ws) c.new-lists.ensures.items (ap (map (darts 0)) c.items.ensures))
    (ap (map (darts 1)) c.items-2.ensures))) c.requires.rotation

pub returns : goal.returns
returns c =
    let darts : ℕ → ℕ → List ℕ = λ end v. hat_darts c.args.hats.now end (list_in c.args.after.now v) in
    c.in_ok-rot.ensures
    ∙ ap₂ system_of (c.as_slice.ensures.value ∙ c.in_ok-at.ensures)
    (c.as_slice-2.ensures.value ∙ c.in_ok-push_lists-2.ensures
    ∙ ap₂ (λ us ws. us ++ ws)
    (c.in_ok-push_lists.ensures
    ∙ ap₂ (λ us ws. us ++ ws) c.new-lists.ensures.items (ap (map (darts 0)) c.items.ensures))
    (ap (map (darts 1)) c.items-2.ensures))
