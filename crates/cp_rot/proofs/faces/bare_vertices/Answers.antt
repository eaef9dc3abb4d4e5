use Rattle.std.proofs.Common.{arith, sym, ◌∙◌, ap, length, subst, ◌+◌}
use Rattle.std.proofs.lemmas.List.{nil_from_length}
use Rattle.cp_lists.specs.Count.{IsCount}
use Rattle.cp_lists.proofs.Counting.{IsCount-none, IsCount-more_yes, IsCount-more_no}
use Rattle.cp_rot.specs.Systems.{list_of}
use Rattle.cp_rot.specs.Genus.{IsBare}
use Rattle.cp_rot.proofs.faces.bare_vertices.Goals as goal
use Rattle.cp_rot.proofs.faces.bare_vertices.Goals.{then-degree-eq0, else-degree-eq0}

pub loop-v-init : goal.loop-v-init
loop-v-init g c = record { counted = IsCount-none (IsBare (g.T.RotationSystem.system c.args.t.now)); few = omega arith }

pub loop-v-preserved : goal.loop-v-preserved
loop-v-preserved g c =
    let r = g.T.RotationSystem.system c.args.t.now in
    elim c.if-degree-eq0.branch [
      | then-degree-eq0 w ↦ record {
        counted = subst (IsCount (IsBare r) (c.loop-v.v + 1)) (sym w.bare-is) (IsCount-more_yes (IsBare r) c.loop-v.v c.loop-v.bare c.loop-v.invariant.counted (nil_from_length (list_of r c.loop-v.v) (sym c.degree.ensures ∙ w.if-degree-eq0.true)));
        few = omega (arith, w.bare-is, c.loop-v.invariant.few);
      }
      | else-degree-eq0 w ↦ record {
        counted = subst (IsCount (IsBare r) (c.loop-v.v + 1)) (sym w.bare-is) (IsCount-more_no (IsBare r) c.loop-v.v c.loop-v.bare c.loop-v.invariant.counted (λ bare. w.if-degree-eq0.false (c.degree.ensures ∙ ap length bare)));
        few = omega (arith, w.bare-is, c.loop-v.invariant.few);
      }
    ]
