use Rattle.std.proofs.Common.{map, rules, subst, sym}
use Rattle.std.specs.List.Sorted.{IsStrictlyIncreasing}
use Rattle.cp_trace.proofs.PartWords.{no_rising_pairs}
use Rattle.cp_trace.proofs.read_parts.pairs_of.Goals as goal

pub returns-else-firsts_rise : goal.returns-else-firsts_rise
returns-else-firsts_rise c =
    let told = rw c.in-Some.is at c.in_ok-pairs.ensures in
    no_rising_pairs c.args.words c.in-Some.pairs told.0 told.1
    (λ up. let no = c.if-firsts_rise.ensures.1
    (subst (λ ps. IsStrictlyIncreasing (map (λ x. x.0) ps)) (sym c.items.ensures) up) in search rules)
