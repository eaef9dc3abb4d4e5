use Rattle.std.proofs.Common.{◌≡◌, arith}
use Rattle.cp_conn.proofs.Grouping.{put_old}
use Rattle.cp_conn.proofs.edge_blocks.put.Goals as goal

pub returns-in_ok-push-3 : goal.returns-in_ok-push-3
returns-in_ok-push-3 c =
    let some : c.index-place.result.now ≡ 0 → ⊥ = λ e. omega arith in
    put_old c.args.edge c.args.label c.index-place.result.now c.args.parts.now.items c.args.places.now.items
    c.index_mut-else-place-eq0.result.now c.push-else-place-eq0.new.self c.requires.label_within
    c.index-place.ensures some c.requires.place_within c.index_mut-else-place-eq0.ensures.value
    c.in_ok-push-3.ensures.ok
