use Rattle.std.proofs.Common.{◌≡◌, ℕ, ◌+◌, ◌*◌, [], ◌∷◌, ◌++◌, sym, ap, subst, ◌∙◌}
use Rattle.std.specs.Prelude.{slice_index_or, slice_set}
use Rattle.cp_cgraph.specs.Clustered.{source, target}
use Rattle.cp_skel.specs.SkeletonTables.{AreLoopsTold}
use Rattle.cp_skel.proofs.LoopTables.{AreLoopsTold-loop, AreLoopsTold-other}
use Rattle.cp_skel.proofs.borders.loops_by_node.Goals.{then-source-target+in_ok-push_at+in_ok-push_at-2, else-source-target}
use Rattle.cp_skel.proofs.borders.loops_by_node.Goals as goal

pub loop-e-preserved : goal.loop-e-preserved
loop-e-preserved c =
    let from : c.ends-source.result.0 ≡ source c.args.g.now c.loop-e.e = ap (λ p. p.0) c.ends-source.ensures.ends in
    let to : c.ends-source.result.1 ≡ target c.args.g.now c.loop-e.e = ap (λ p. p.1) c.ends-source.ensures.ends in
    elim c.if-source-target.branch [
      | then-source-target+in_ok-push_at+in_ok-push_at-2 w ↦
          subst (AreLoopsTold c.args.g.now (c.loop-e.e + 1)) (sym (ap (λ v. v.items) w.lists-is))
          (AreLoopsTold-loop c.args.g.now c.loop-e.e c.loop-e.lists.items w.push_at.new.lists.items
          w.push_at-then-source-target.new.lists.items c.loop-e.invariant c.ends-source.ensures.source
          (sym from ∙ w.if-source-target.true ∙ to)
          (w.in_ok-push_at.ensures
          ∙ ap (λ (j : ℕ). slice_set c.loop-e.lists.items j
          (slice_index_or c.loop-e.lists.items j [] ++ (2 * c.loop-e.e) ∷ [])) from)
          (w.in_ok-push_at-2.ensures
          ∙ ap (λ (j : ℕ). slice_set w.push_at.new.lists.items j
          (slice_index_or w.push_at.new.lists.items j [] ++ (2 * c.loop-e.e + 1) ∷ [])) from))
      | else-source-target w ↦
          subst (AreLoopsTold c.args.g.now (c.loop-e.e + 1)) (sym (ap (λ v. v.items) w.lists-is))
          (AreLoopsTold-other c.args.g.now c.loop-e.e c.loop-e.lists.items c.loop-e.invariant
          (λ same. w.if-source-target.false (from ∙ same ∙ sym to)))
    ]
