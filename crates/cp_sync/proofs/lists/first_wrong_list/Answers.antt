use Rattle.std.proofs.Common.{[], ◌<◌, length, sym, subst, ◌∙◌, arith}
use Rattle.std.specs.List.Sorted.{IsStrictlyIncreasing}
use Rattle.std.proofs.lemmas.List.{get_or_default}
use Rattle.cp_sync.proofs.lists.first_wrong_list.Goals as goal

pub is_right_list-requires : goal.is_right_list-requires
is_right_list-requires c =
    let within : c.loop-k.k < length c.args.at.now = omega (arith, c.loop-k-test.true, c.requires.one_each) in
    subst IsStrictlyIncreasing
    (sym (c.items.ensures ∙ c.index-at-k.is ∙ get_or_default c.args.at.now c.loop-k.k c.index-at-k.result [] within))
    (c.requires.rising c.loop-k.k within)
