use Rattle.std.proofs.Common.{◌≡◌, ◌++◌, ◌∷◌, [], List, ℕ, length, map, ap, ap₂, sym, ◌∙◌, arith}
use Rattle.std.proofs.lemmas.List.FromFn.{length-map-range_with_len}
use Rattle.cp_cgraph.specs.Clustered.{edges}
use Rattle.cp_skel.specs.Skeletons.{below}
use Rattle.cp_skel.specs.SolutionLayouts.{name_edge}
use Rattle.cp_skel.specs.SkeletonTables.{first_name}
use Rattle.cp_skel.proofs.GatheredLists.{map_more}
use Rattle.cp_skel.proofs.SegmentRows.{first_name-all}
use Rattle.cp_skel.proofs.border_pairs.named_segments.Goals as goal

pub loop-e-preserved : goal.loop-e-preserved
loop-e-preserved c =
    let long : length c.loop-e.owners.items ≡ first_name c.args.g.now c.loop-e.e =
    ap length c.loop-e.invariant.owners
    ∙ length-map-range_with_len (name_edge c.args.g.now) 0 (first_name c.args.g.now c.loop-e.e) in
    let named : c.len.result ≡ first_name c.args.g.now c.loop-e.e =
    omega (arith, c.len.ensures, c.loop-e.owners.ok, long) in
    record {
      firsts = c.in_ok-push.ensures.items
          ∙ ap₂ (λ (xs : List ℕ) (x : ℕ). xs ++ x ∷ []) c.loop-e.invariant.firsts named
          ∙ sym (map_more (first_name c.args.g.now) c.loop-e.e);
      owners = c.in_ok-push_segments.ensures;
    }

pub returns-clause-owners : goal.returns-clause-owners
returns-clause-owners c =
    let last : c.loop-e.e ≡ edges c.args.g.now = omega (arith, c.edges-e-end.ensures.value) in
    c.loop-e.invariant.owners
    ∙ ap (λ (n : ℕ). map (name_edge c.args.g.now) (below n))
    (ap (first_name c.args.g.now) last ∙ first_name-all c.args.g.now)

pub returns-clause-few : goal.returns-clause-few
returns-clause-few c =
    let last : c.loop-e.e ≡ edges c.args.g.now = omega (arith, c.edges-e-end.ensures.value) in
    let long : length c.loop-e.owners.items ≡ first_name c.args.g.now c.loop-e.e =
    ap length c.loop-e.invariant.owners
    ∙ length-map-range_with_len (name_edge c.args.g.now) 0 (first_name c.args.g.now c.loop-e.e) in
    let all = ap (first_name c.args.g.now) last ∙ first_name-all c.args.g.now in
    omega (arith, long, all, c.loop-e.owners.ok, c.loop-e.owners.small)
