use Rattle.std.proofs.Common.{ℕ, List, length, refl, sym, subst}
use Rattle.cp_pq.specs.Trees.{make_tree, IsWellFormed, Admits}
use Rattle.cp_pq.specs.Orders.{inside, outside, IsConsecutive}
use Rattle.cp_pq.specs.Promises.{IsLeafSet}
use Rattle.cp_pq.specs.Holes.{IsTakenOut}
use Rattle.cp_pq.proofs.SetInTrees.{root_apart, step_is, not_open, placed}
use Rattle.cp_pq.proofs.TakenParts.{body_together, taken_whole}
use Rattle.cp_pq.proofs.taking.taken_out.Goals as goal

pub unreachable-requires : goal.unreachable-requires
unreachable-requires c =
    let set = c.args.set.now in let e = c.into_parts-root.ensures.parts in
    let r = c.into_parts-root.result in let tree = make_tree r.0 r.1 r.2 r.3 in
    let wf = subst IsWellFormed e c.into_parts-root.ensures.well_formed in
    let ls = subst (IsLeafSet set) e c.requires.leaf_set in
    let g = step_is set tree (length set) c.in_ok-step.step wf ls refl c.in_ok-step.ensures in
    not_open (outside set) (inside set) (length set) tree.body c.in_ok-step.step _ _ g.0 g.1 c.in-Open.is

pub part_at-requires : goal.part_at-requires
part_at-requires c =
    let set = c.args.set.now in let e = c.into_parts-root.ensures.parts in
    let r = c.into_parts-root.result in let tree = make_tree r.0 r.1 r.2 r.3 in
    let wf = subst IsWellFormed e c.into_parts-root.ensures.well_formed in
    let ls = subst (IsLeafSet set) e c.requires.leaf_set in
    let all = subst (λ t. (order : List ℕ) → Admits t order → IsConsecutive set order) e c.requires.consecutive in
    let g = step_is set tree (length set) c.in_ok-step.step wf ls refl c.in_ok-step.ensures in (
      outside set,
      inside set,
      tree.body,
      λ x. refl,
      placed (outside set) (inside set) (length set) tree.body c.in_ok-step.step c.in-Root.place g.0 c.in-Root.is,
      body_together set tree wf ls all (root_apart set tree wf ls),
    )

pub returns-clause-taken : goal.returns-clause-taken
returns-clause-taken c =
    let set = c.args.set.now in let e = c.into_parts-root.ensures.parts in
    let r = c.into_parts-root.result in let tree = make_tree r.0 r.1 r.2 r.3 in
    let wf = subst IsWellFormed e c.into_parts-root.ensures.well_formed in
    let ls = subst (IsLeafSet set) e c.requires.leaf_set in
    let all = subst (λ t. (order : List ℕ) → Admits t order → IsConsecutive set order) e c.requires.consecutive in
    let g = step_is set tree (length set) c.in_ok-step.step wf ls refl c.in_ok-step.ensures in
    let at = placed (outside set) (inside set) (length set) tree.body c.in_ok-step.step c.in-Root.place g.0
    c.in-Root.is in
    let taken = c.in_ok-frames-in-Root.ensures (outside set) (inside set) tree.body (λ x. refl) at
    (body_together set tree wf ls all (root_apart set tree wf ls)) in
    subst (λ t. IsTakenOut set t (record {
      root = r.0;
      frames = c.in_ok-frames-in-Root.frames;
      vars = r.2;
      equations = r.3;
    }) c.in_ok-frames-in-Root.part) (sym e)
    (taken_whole set tree wf ls (record {
      root = r.0;
      frames = c.in_ok-frames-in-Root.frames;
      vars = r.2;
      equations = r.3;
    }) c.in_ok-frames-in-Root.part refl refl refl taken)
