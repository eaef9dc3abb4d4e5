use Rattle.std.proofs.Common.{◌∙◌, sym, subst}
use Rattle.cp_lists.specs.Turns.{IsTurn}
use Rattle.cp_rot.specs.Systems.{list_of}
use Rattle.cp_rotlaw.proofs.ListedPartners.{partners_listed, reversed_listed}
use Rattle.cp_rotlaw.proofs.tests_glue.fit.Goals as goal

pub returns-clause-partners : goal.returns-clause-partners
returns-clause-partners c = λ t. partners_listed c.args.a.now c.args.b.now c.is_rotation.ensures.rotation c.is_rotation-2.ensures.rotation c.args.u c.args.w c.requires.first c.requires.second c.args.pairs.now
    (sym (c.as_slice.ensures.value ∙ c.in_ok-first.ensures) ∙ c.are_lists.ensures.first t) (subst (λ ys. IsTurn ys (list_of c.args.b.now c.args.w)) c.in_ok-second.ensures (c.are_lists.ensures.second t))

pub returns-clause-reversed : goal.returns-clause-reversed
returns-clause-reversed c = λ t. reversed_listed c.args.a.now c.args.b.now c.is_rotation.ensures.rotation c.is_rotation-2.ensures.rotation c.args.u c.args.w c.requires.first c.requires.second c.args.pairs.now
    (sym (c.as_slice.ensures.value ∙ c.in_ok-first.ensures) ∙ c.are_lists.ensures.first t) (subst (λ ys. IsTurn ys (list_of c.args.b.now c.args.w)) c.in_ok-second.ensures (c.are_lists.ensures.second t))
