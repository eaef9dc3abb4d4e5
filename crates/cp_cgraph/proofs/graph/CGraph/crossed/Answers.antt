use Rattle.std.proofs.Common.{◌≡◌, ◌∙◌, ◌^◌, subst, arith}
use Rattle.std.proofs.lemmas.List.{get_or_default}
use Rattle.cp_cgraph.specs.Clustered.{edges}
use Rattle.cp_cgraph.specs.Crossings.{crossed}
use Rattle.cp_cgraph.specs.LookUps.{IsTable}
use Rattle.cp_cgraph.proofs.Nesting.{crossed_le}
use Rattle.cp_cgraph.proofs.graph.CGraph.crossed.Goals as goal

pub returns-clause-bound : goal.returns-clause-bound
returns-clause-bound c =
    let g = c.args.self.now in
    let counts = c.self.inside.crossed.items in
    let counted : IsTable (edges g) counts (crossed g) =
    subst (λ h. IsTable (edges h) counts (crossed h)) c.self.view_is c.self.invariant.counted in
    let value : c.index.result.now ≡ crossed g c.args.e = c.index.ensures
    ∙ get_or_default counts c.args.e c.index.result.now 0 (omega (arith, counted.size, c.requires))
    ∙ counted.value c.args.e c.requires in
    omega (
      arith,
      value,
      crossed_le g c.is_clustered.ensures.clustered c.args.e (2 ^ 60) c.requires
          c.is_clustered.ensures.few_clusters,
    )
