use Rattle.std.proofs.Common.{◌≡◌, length, Result, Ok, Err, IfOk, IfErr, refl, sym, subst}
use Rattle.cp_pq.specs.declared.fault.ReduceFault.{ReduceFault}
use Rattle.cp_pq.specs.declared.fault.ReduceFault.TheVariants.{NotConsecutive}
use Rattle.cp_pq.specs.Trees.{PQTree, make_tree, IsWellFormed}
use Rattle.cp_pq.specs.Orders.{inside, outside}
use Rattle.cp_pq.specs.Promises.{IsLeafSet, IsReduced, IsNeverConsecutive}
use Rattle.cp_pq.proofs.SetInTrees.{root_apart, step_is, not_open, placed}
use Rattle.cp_pq.proofs.reducing.reduce.Goals as goal

pub unreachable-requires : goal.unreachable-requires
unreachable-requires c =
    let e = c.into_parts-root.ensures.parts in
    let tree = make_tree c.into_parts-root.result.0 c.into_parts-root.result.1 c.into_parts-root.result.2 c.into_parts-root.result.3 in
    let wf = subst IsWellFormed e c.into_parts-root.ensures.well_formed in
    let s = subst (IsLeafSet c.args.set.now) e c.requires in
    let g = step_is c.args.set.now tree (length c.args.set.now) c.in_ok-step.step wf s refl c.in_ok-step.ensures in
    not_open (outside c.args.set.now) (inside c.args.set.now) (length c.args.set.now) tree.body c.in_ok-step.step _ _ g.0 g.1 c.in-Open.is

pub reduced_at-requires : goal.reduced_at-requires
reduced_at-requires c =
    let e = c.into_parts-root.ensures.parts in
    let tree = make_tree c.into_parts-root.result.0 c.into_parts-root.result.1 c.into_parts-root.result.2 c.into_parts-root.result.3 in
    let wf = subst IsWellFormed e c.into_parts-root.ensures.well_formed in
    let s = subst (IsLeafSet c.args.set.now) e c.requires in
    let g = step_is c.args.set.now tree (length c.args.set.now) c.in_ok-step.step wf s refl c.in_ok-step.ensures in (
      tree.body,
      c.args.set.now,
      wf,
      root_apart c.args.set.now tree wf s,
      placed (outside c.args.set.now) (inside c.args.set.now) (length c.args.set.now) tree.body c.in_ok-step.step c.in-Root.place g.0 c.in-Root.is,
    )

pub returns-clause-reduced : goal.returns-clause-reduced
returns-clause-reduced c =
    let e = c.into_parts-root.ensures.parts in
    let tree = make_tree c.into_parts-root.result.0 c.into_parts-root.result.1 c.into_parts-root.result.2 c.into_parts-root.result.3 in
    let wf = subst IsWellFormed e c.into_parts-root.ensures.well_formed in
    let s = subst (IsLeafSet c.args.set.now) e c.requires in
    let g = step_is c.args.set.now tree (length c.args.set.now) c.in_ok-step.step wf s refl c.in_ok-step.ensures in
    let at = placed (outside c.args.set.now) (inside c.args.set.now) (length c.args.set.now) tree.body c.in_ok-step.step c.in-Root.place g.0 c.in-Root.is in
    subst (λ t. IfOk c.reduced_at.result (IsReduced c.args.set.now t)) (sym e)
    (of_ok c.reduced_at.result c.reduced_at.ensures.reduced (λ t h. h tree.body c.args.set.now wf (root_apart c.args.set.now tree wf s) at))
  where
    of_ok : {S T : PQTree → Type 0} (r : Result PQTree ReduceFault) → IfOk r S → ((t : PQTree) → S t → T t) → IfOk r T
    of_ok (Ok t) h f = f t h
    of_ok (Err x) h f = tt

pub returns-clause-refused : goal.returns-clause-refused
returns-clause-refused c =
    let e = c.into_parts-root.ensures.parts in
    let tree = make_tree c.into_parts-root.result.0 c.into_parts-root.result.1 c.into_parts-root.result.2 c.into_parts-root.result.3 in
    let wf = subst IsWellFormed e c.into_parts-root.ensures.well_formed in
    let s = subst (IsLeafSet c.args.set.now) e c.requires in
    let g = step_is c.args.set.now tree (length c.args.set.now) c.in_ok-step.step wf s refl c.in_ok-step.ensures in
    let at = placed (outside c.args.set.now) (inside c.args.set.now) (length c.args.set.now) tree.body c.in_ok-step.step c.in-Root.place g.0 c.in-Root.is in
    subst (λ t. IfErr c.reduced_at.result (λ x. x ≡ NotConsecutive → IsNeverConsecutive c.args.set.now t)) (sym e)
    (of_err c.reduced_at.result c.reduced_at.ensures.refused (λ x h z. h z tree.body c.args.set.now wf (root_apart c.args.set.now tree wf s) at))
  where
    of_err : {S T : ReduceFault → Type 0} (r : Result PQTree ReduceFault) → IfErr r S → ((x : ReduceFault) → S x → T x)
        → IfErr r T
    of_err (Ok t) h f = tt
    of_err (Err x) h f = f x h
