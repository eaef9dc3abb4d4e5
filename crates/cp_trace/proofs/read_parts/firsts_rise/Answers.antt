use Rattle.std.proofs.Common.{get_or, rules}
use Rattle.std.proofs.lemmas.List.{get_or_default}
use Rattle.cp_trace.proofs.ToldLists.{falls_at, rises_on}
use Rattle.cp_trace.proofs.read_parts.firsts_rise.Goals as goal

pub returns-then-not-is_above : goal.returns-then-not-is_above
returns-then-not-is_above c = (
  search rules,
  λ up.
      let xs = c.args.pairs.now in
      let k = c.loop-pair.pair-index in
      let x = get_or xs k (0, 0) in
      absurd (falls_at (λ y. y.0) xs k x c.loop-pair.last c.loop-pair-test.true
      (get_or_default xs k (0, 0) x c.loop-pair-test.true) c.loop-pair.invariant.name
      (λ above. let no = c.if-not-is_above.ensures.1 above in search rules) up),
)

pub loop-pair-preserved : goal.loop-pair-preserved
loop-pair-preserved c =
    let xs = c.args.pairs.now in
    let k = c.loop-pair.pair-index in
    let x = get_or xs k (0, 0) in
    let on = rises_on (λ y. y.0) xs k x c.loop-pair.last c.loop-pair-test.true
    (get_or_default xs k (0, 0) x c.loop-pair-test.true) c.loop-pair.invariant.name
    (c.if-not-is_above.ensures.0 (search rules)) c.loop-pair.invariant.rise in
    record { rise = on.0; name = on.1 }
