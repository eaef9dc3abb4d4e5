use Rattle.std.proofs.Common.{◌≡◌, ◌-◌, ◌∙◌, ap₂, subst, arith}
use Rattle.std.specs.Prelude.{max}
use Rattle.std.proofs.lemmas.List.{get_or_default}
use Rattle.cp_cgraph.specs.LookUps.{IsTable}
use Rattle.cp_cgraph.proofs.Nesting.{IsRaised, IsRaised-start, IsRaised-more, IsRaised-end}
use Rattle.cp_cgraph.proofs.look_ups.lasts.Goals as goal

pub raising-init : goal.raising-init
raising-init c = record {
  cluster = omega (arith, c.clusters-clusters.ensures.value);
  raised = IsRaised-start c.args.g.now c.in_ok-lasts.lasts.items (c.clusters-clusters.result - 1)
      (subst (λ n. IsTable n c.in_ok-lasts.lasts.items (λ k. k)) c.clusters-clusters.ensures.value
      c.in_ok-lasts.ensures) (omega (arith, c.clusters-clusters.ensures.value));
}

pub raising-preserved : goal.raising-preserved
raising-preserved c =
    let lasts = c.raising.lasts.items in
    let so = c.raising.invariant in
    record {
      cluster = omega (arith, so.cluster);
      raised = IsRaised-more c.args.g.now c.is_clustered.ensures.clustered lasts c.raising.c c.parent-outer.result
          c.max.result so.raised c.raising-test.true so.cluster c.parent-outer.ensures.value
          (c.max.ensures
          ∙ ap₂ max
          (c.index.ensures ∙ get_or_default lasts c.parent-outer.result c.index.result.now 0
          (omega (arith, so.raised.size, so.cluster, c.parent-outer.ensures.lower)))
          (c.index-in-raising.ensures
          ∙ get_or_default lasts c.raising.c c.index-in-raising.result.now 0
          (omega (arith, so.raised.size, so.cluster))));
    }

pub returns : goal.returns
returns c =
    IsRaised-end c.args.g.now c.is_clustered.ensures.clustered c.requires c.raising.lasts.items
    (subst (IsRaised c.args.g.now c.raising.lasts.items) (let e : c.raising.c ≡ 0 = omega
    (arith, c.raising-test.false) in e) c.raising.invariant.raised)
