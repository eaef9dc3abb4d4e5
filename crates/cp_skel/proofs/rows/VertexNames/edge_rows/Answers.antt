use Rattle.std.proofs.Common.{ap, sym, ◌∙◌}
use Rattle.cp_skel.proofs.SegmentRows.{rows-loop}
use Rattle.cp_skel.proofs.rows.VertexNames.edge_rows.Goals.{then-source-target+in_ok-push_segments, else-source-target}
use Rattle.cp_skel.proofs.rows.VertexNames.edge_rows.Goals as goal

pub loop-e-preserved : goal.loop-e-preserved
loop-e-preserved c =
    elim c.if-source-target.branch [
      | then-source-target+in_ok-push_segments w ↦ w.rows-is ∙ w.in_ok-push_segments.ensures
      | else-source-target w ↦
          w.rows-is ∙ c.loop-e.invariant
          ∙ rows-loop c.args.self.now.graph.now c.loop-e.e
          (sym (ap (λ p. p.0) c.ends-source.ensures.ends) ∙ w.if-source-target.false
          ∙ ap (λ p. p.1) c.ends-source.ensures.ends)
    ]
