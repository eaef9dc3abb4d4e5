use Rattle.std.proofs.Common.{◌∙◌, ap, length, subst, sym}
use Rattle.std.proofs.lemmas.Result.{IfOk-weaker}
use Rattle.cp_orbits.specs.Connected.{Connected}
use Rattle.cp_conn.specs.Numbering.{AreNumbered}
use Rattle.cp_rot.specs.Systems.{darts}
use Rattle.cp_rot.proofs.ListEdits.{length-values}
use Rattle.cp_rotlaw.specs.PoleClasses.{dart_part, pairs_between}
use Rattle.cp_rotlaw.proofs.PoleParts.{table-ArePoleParts, table_low}
use Rattle.cp_rotlaw.proofs.pole_parts.pole_parts.Goals as goal

pub returns-clause-size : goal.returns-clause-size
returns-clause-size c =
    let r = c.args.a.now in
    IfOk-weaker c.parts_by_number.result _ _
    (λ parts e. ap length e ∙ length-values (darts r) (dart_part r c.args.u c.args.v c.as_slice.result.now))
    c.parts_by_number.ensures

pub returns-clause-within : goal.returns-clause-within
returns-clause-within c =
    let r = c.args.a.now in
    let are = subst (AreNumbered (Connected (pairs_between r c.args.u c.args.v)) r.vertices)
    (sym c.as_slice.ensures.value) c.in_ok-numbers.ensures in
    IfOk-weaker c.parts_by_number.result _ _
    (λ parts e. table_low r c.is_rotation.ensures.rotation c.args.u c.args.v c.as_slice.result.now parts.items are
    c.requires.first c.requires.second e)
    c.parts_by_number.ensures

pub returns-clause-parts : goal.returns-clause-parts
returns-clause-parts c =
    let r = c.args.a.now in
    let are = subst (AreNumbered (Connected (pairs_between r c.args.u c.args.v)) r.vertices)
    (sym c.as_slice.ensures.value) c.in_ok-numbers.ensures in
    IfOk-weaker c.parts_by_number.result _ _
    (λ parts e. table-ArePoleParts r c.is_rotation.ensures.rotation c.args.u c.args.v c.as_slice.result.now parts.items are
    c.requires.first c.requires.second c.requires.bond e)
    c.parts_by_number.ensures
