use Rattle.std.proofs.Common.{subst, arith}
use Rattle.std.proofs.lemmas.List.{map-id}
use Rattle.cp_sync.specs.Places.{IsLowerPlace}
use Rattle.cp_sync.proofs.Places.{live_place}
use Rattle.cp_sync.proofs.NumberedGraphs.{rank-lower_place}
use Rattle.cp_sync.proofs.numbered.rank_of.Goals as goal

pub prove-unreachable-requires : goal.prove-unreachable-requires
prove-unreachable-requires c =
    let low = subst (λ names. IsLowerPlace names c.args.name c.lower_place-place.result) (map-id c.args.names.now) c.lower_place-place.ensures in
    let at = live_place c.args.names.now c.args.name c.lower_place-place.result c.requires.rising c.requires.live low in
    omega (arith, at.0)

pub returns-clause-value : goal.returns-clause-value
returns-clause-value c =
    rank-lower_place c.args.names.now c.args.name c.lower_place-place.result c.requires.rising c.requires.live
    (subst (λ names. IsLowerPlace names c.args.name c.lower_place-place.result) (map-id c.args.names.now) c.lower_place-place.ensures)
