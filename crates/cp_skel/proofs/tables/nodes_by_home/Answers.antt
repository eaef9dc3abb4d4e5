use Rattle.std.proofs.Common.{ℕ, List, [], ◌∷◌, ◌++◌, ap, subst, sym, ◌∙◌, arith}
use Rattle.std.specs.Prelude.{slice_index_or, slice_set}
use Rattle.cp_cgraph.specs.Clustered.{clusters, home}
use Rattle.cp_skel.specs.Skeletons.{below}
use Rattle.cp_skel.specs.SkeletonTables.{AreGathered}
use Rattle.cp_skel.proofs.GatheredLists.{AreGathered-more, below_one_more}
use Rattle.cp_skel.proofs.tables.nodes_by_home.Goals as goal

pub loop-v-preserved : goal.loop-v-preserved
loop-v-preserved c =
    subst (λ (xs : List ℕ). AreGathered (home c.args.g.now) (clusters c.args.g.now) xs c.push_at.new.lists.items)
    (sym (below_one_more c.loop-v.v))
    (AreGathered-more (home c.args.g.now) (clusters c.args.g.now) (below c.loop-v.v) c.loop-v.v c.loop-v.lists.items
    c.push_at.new.lists.items c.loop-v.invariant (omega (arith, c.home.ensures.value, c.home.ensures.cluster))
    (c.in_ok-push_at.ensures
    ∙ ap (λ (j : ℕ). slice_set c.loop-v.lists.items j (slice_index_or c.loop-v.lists.items j [] ++ c.loop-v.v ∷ []))
    c.home.ensures.value))
