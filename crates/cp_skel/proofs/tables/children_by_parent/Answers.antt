use Rattle.std.proofs.Common.{◌≡◌, ℕ, ◌+◌, List, [], ◌∷◌, ◌++◌, false, length, ap, subst, sym, ◌∙◌, arith}
use Rattle.std.specs.Prelude.{slice_index_or, slice_set}
use Rattle.std.specs.List.{filter}
use Rattle.cp_cgraph.specs.Clustered.{clusters, parent}
use Rattle.cp_skel.specs.Skeletons.{below, is_left}
use Rattle.cp_skel.specs.SkeletonTables.{AreGathered}
use Rattle.cp_skel.proofs.GatheredLists.{AreGathered-kept, AreGathered-left_out}
use Rattle.cp_skel.proofs.ToldLists.{left_clusters-at, length-left_clusters}
use Rattle.cp_skel.proofs.tables.children_by_parent.Goals.{then-left-c+in_ok-push_at, else-left-c}
use Rattle.cp_skel.proofs.tables.children_by_parent.Goals as goal

pub bounds-left-c : goal.bounds-left-c
bounds-left-c c = omega (arith, ap length c.requires, length-left_clusters c.args.g.now, c.clusters-c-end.ensures.value)

pub loop-c-preserved : goal.loop-c-preserved
loop-c-preserved c =
    let told : slice_index_or c.args.left.now c.loop-c.c false ≡ is_left c.args.g.now c.loop-c.c =
    left_clusters-at c.args.g.now c.args.left.now c.loop-c.c false c.requires
    (omega (arith, c.clusters-c-end.ensures.value)) in
    elim c.if-left-c.branch [
      | then-left-c+in_ok-push_at w ↦
          subst (λ (ls : List (List ℕ)). AreGathered (parent c.args.g.now) (clusters c.args.g.now)
          (filter (is_left c.args.g.now) (below (c.loop-c.c + 1))) ls)
          (sym (ap (λ v. v.items) w.lists-is))
          (AreGathered-kept (parent c.args.g.now) (clusters c.args.g.now) (is_left c.args.g.now) c.loop-c.c
          c.loop-c.lists.items w.push_at.new.lists.items (sym told ∙ w.if-left-c.true) c.loop-c.invariant
          (omega (arith, w.parent.ensures.value, w.parent.ensures.lower, c.clusters-c-end.ensures.value))
          (w.in_ok-push_at.ensures
          ∙ ap (λ (j : ℕ). slice_set c.loop-c.lists.items j
          (slice_index_or c.loop-c.lists.items j [] ++ c.loop-c.c ∷ [])) w.parent.ensures.value))
      | else-left-c w ↦
          subst (λ (ls : List (List ℕ)). AreGathered (parent c.args.g.now) (clusters c.args.g.now)
          (filter (is_left c.args.g.now) (below (c.loop-c.c + 1))) ls)
          (sym (ap (λ v. v.items) w.lists-is))
          (AreGathered-left_out (parent c.args.g.now) (clusters c.args.g.now) (is_left c.args.g.now) c.loop-c.c
          c.loop-c.lists.items (sym told ∙ w.if-left-c.false) c.loop-c.invariant)
    ]
