use Rattle.std.proofs.Common.{refl, sym, subst}
use Rattle.cp_pq.specs.Orders.{inside, outside}
use Rattle.cp_pq.specs.Promises.{IsReduced}
use Rattle.cp_pq.specs.Trees.{make_tree}
use Rattle.cp_pq.specs.Roots.{IsChange}
use Rattle.cp_pq.proofs.ReducedTrees.{never_at, kept_at, old_at, new_at}
use Rattle.cp_pq.proofs.reducing.reduced_at.Goals as goal

pub from_parts-requires : goal.from_parts-requires
from_parts-requires c =
    let r = c.requires in
    (kept_at r.1 c.args.root c.args.vars r.0 c.args.equations r.2 r.3 c.args.place r.4 c.in-Kept.node c.in_ok-kept-in-Kept.kept c.in_ok-kept-in-Kept.ensures
    (subst (IsChange (outside r.1) (inside r.1) c.args.vars r.4.0) c.in-Kept.is (c.in_ok-change.ensures (outside r.1) (inside r.1) r.4.0 (λ x. refl) r.4.3))).0

pub returns-in_ok-kept-in-Kept-clause-reduced : goal.returns-in_ok-kept-in-Kept-clause-reduced
returns-in_ok-kept-in-Kept-clause-reduced c = λ body set wf apart at.
    subst (IsReduced set (make_tree c.args.root body c.args.vars c.args.equations)) (sym c.from_parts.ensures)
    (kept_at set c.args.root c.args.vars body c.args.equations wf apart c.args.place at c.in-Kept.node c.in_ok-kept-in-Kept.kept c.in_ok-kept-in-Kept.ensures
    (subst (IsChange (outside set) (inside set) c.args.vars at.0) c.in-Kept.is (c.in_ok-change.ensures (outside set) (inside set) at.0 (λ x. refl) at.3))).1

pub from_parts-requires-in-Old : goal.from_parts-requires-in-Old
from_parts-requires-in-Old c =
    let r = c.requires in
    (old_at r.1 c.args.root c.args.vars r.0 c.args.equations r.2 r.3 c.args.place r.4 c.in-Old.node c.in_ok-body-in-Old.body c.in-Old.var c.in-Old.ties c.in_ok-all-in-Old.all c.in_ok-body-in-Old.ensures c.in_ok-all-in-Old.ensures
    (subst (IsChange (outside r.1) (inside r.1) c.args.vars r.4.0) c.in-Old.is (c.in_ok-change.ensures (outside r.1) (inside r.1) r.4.0 (λ x. refl) r.4.3))).0

pub returns-in_ok-all-in-Old-clause-reduced : goal.returns-in_ok-all-in-Old-clause-reduced
returns-in_ok-all-in-Old-clause-reduced c = λ body set wf apart at.
    subst (IsReduced set (make_tree c.args.root body c.args.vars c.args.equations)) (sym c.from_parts-in-Old.ensures)
    (old_at set c.args.root c.args.vars body c.args.equations wf apart c.args.place at c.in-Old.node c.in_ok-body-in-Old.body c.in-Old.var c.in-Old.ties c.in_ok-all-in-Old.all c.in_ok-body-in-Old.ensures c.in_ok-all-in-Old.ensures
    (subst (IsChange (outside set) (inside set) c.args.vars at.0) c.in-Old.is (c.in_ok-change.ensures (outside set) (inside set) at.0 (λ x. refl) at.3))).1

pub from_parts-requires-in-New : goal.from_parts-requires-in-New
from_parts-requires-in-New c =
    let r = c.requires in
    (new_at r.1 c.args.root c.args.vars r.0 c.args.equations r.2 r.3 c.args.place r.4 c.in-New.node c.in_ok-new_body-in-New.new_body c.in-New.ties c.in_ok-new_all-in-New.new_all c.in_ok-new_body-in-New.ensures c.in_ok-new_all-in-New.ensures
    (subst (IsChange (outside r.1) (inside r.1) c.args.vars r.4.0) c.in-New.is (c.in_ok-change.ensures (outside r.1) (inside r.1) r.4.0 (λ x. refl) r.4.3))).0

pub returns-in_ok-new_all-in-New-clause-reduced : goal.returns-in_ok-new_all-in-New-clause-reduced
returns-in_ok-new_all-in-New-clause-reduced c = λ body set wf apart at.
    subst (IsReduced set (make_tree c.args.root body c.args.vars c.args.equations)) (sym c.from_parts-in-New.ensures)
    (new_at set c.args.root c.args.vars body c.args.equations wf apart c.args.place at c.in-New.node c.in_ok-new_body-in-New.new_body c.in-New.ties c.in_ok-new_all-in-New.new_all c.in_ok-new_body-in-New.ensures c.in_ok-new_all-in-New.ensures
    (subst (IsChange (outside set) (inside set) c.args.vars at.0) c.in-New.is (c.in_ok-change.ensures (outside set) (inside set) at.0 (λ x. refl) at.3))).1

pub returns-in-Never-clause-refused : goal.returns-in-Never-clause-refused
returns-in-Never-clause-refused c = λ e body set wf apart at.
    never_at set c.args.root c.args.vars body c.args.equations wf apart c.args.place at
    (subst (IsChange (outside set) (inside set) c.args.vars at.0) c.in-Never.is (c.in_ok-change.ensures (outside set) (inside set) at.0 (λ x. refl) at.3))
