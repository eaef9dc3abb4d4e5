use Rattle.std.proofs.Common.{◌≡◌, List, ℕ, sym, ap₂, ◌∙◌, subst}
use Rattle.std.proofs.lemmas.Result.{IfOk-weaker}
use Rattle.cp_rot.specs.Systems.{IsRotation}
use Rattle.cp_rot.specs.Tables.{system_of}
use Rattle.cp_rot.proofs.NextTables.{own_tables}
use Rattle.cp_rot.proofs.rot.Rot.stored.Goals as goal

pub build-requires : goal.build-requires
build-requires g c =
    let told = g.T.RotationSystem.system c.args.t.now in
    let is : IsRotation told = c.in_ok-lists.ensures.rotation in
    subst IsRotation (sym (ap₂ system_of c.in_ok-at.ensures c.in_ok-lists.ensures.lists ∙ own_tables told is)) is

pub returns : goal.returns
returns g c =
    let told = g.T.RotationSystem.system c.args.t.now in
    IfOk-weaker c.build.result _ _ (λ rot e. e ∙ ap₂ system_of c.in_ok-at.ensures c.in_ok-lists.ensures.lists ∙ own_tables told c.in_ok-lists.ensures.rotation) c.build.ensures
