use Rattle.std.proofs.Common.{◌<◌, ◌++◌, ◌∷◌, [], List, Bool, length, ap, ap₂, sym, ◌∙◌, arith}
use Rattle.std.proofs.lemmas.List.{get_or_default}
use Rattle.cp_cgraph.specs.Clustered.{clusters}
use Rattle.cp_skel.specs.Skeletons.{is_left}
use Rattle.cp_skel.proofs.BorderPairs.{left-by_pairs}
use Rattle.cp_skel.proofs.GatheredLists.{map_more}
use Rattle.cp_skel.proofs.border_pairs.left_by_pairs.Goals as goal

pub loop-c-preserved : goal.loop-c-preserved
loop-c-preserved c =
    let cluster : c.loop-c.c < clusters c.args.g.now = omega (arith, c.clusters-c-end.ensures.value) in
    c.in_ok-push.ensures.items
    ∙ ap₂ (λ (xs : List Bool) (x : Bool). xs ++ x ∷ []) c.loop-c.invariant
    (left-by_pairs c.args.g.now c.args.pairs.now c.requires c.loop-c.c c.len.result
    cluster
    (c.len.ensures ∙ ap length (c.index-pairs-c.is
    ∙ get_or_default c.args.pairs.now c.loop-c.c c.index-pairs-c.result [] (omega (arith, cluster, c.requires.size)))))
    ∙ sym (map_more (is_left c.args.g.now) c.loop-c.c)
