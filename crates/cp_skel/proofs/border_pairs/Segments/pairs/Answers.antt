use Rattle.std.proofs.Common.{◌≡◌, ℕ, [], subst, arith}
use Rattle.cp_cgraph.specs.Clustered.{edges}
use Rattle.cp_skel.specs.SkeletonTables.{AreEmpty, ArePaired}
use Rattle.cp_skel.proofs.BorderPairs.{ArePaired-none}
use Rattle.cp_skel.proofs.border_pairs.Segments.pairs.Goals as goal

pub loop-e-init : goal.loop-e-init
loop-e-init c =
    ArePaired-none c.args.self.now.graph.now c.in_ok-pairs.pairs.items
    (subst (λ (n : ℕ). AreEmpty n c.in_ok-pairs.pairs.items) c.clusters.ensures.value c.in_ok-pairs.ensures)

pub returns : goal.returns
returns c =
    let last : c.loop-e.e ≡ edges c.args.self.now.graph.now = omega (arith, c.edges-e-end.ensures.value) in
    subst (λ (n : ℕ). ArePaired c.args.self.now.graph.now n [] c.loop-e.pairs.items) last c.loop-e.invariant
