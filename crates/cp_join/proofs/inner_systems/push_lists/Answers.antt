-- The list of a vertex has new edges alone.
use Rattle.std.proofs.Common.{sym, subst, ◌∙◌}
use Rattle.std.specs.List.{All, Contains}
use Rattle.cp_join.proofs.inner_systems.push_lists.Goals as goal

pub darts_of_hats-requires-clause-live : goal.darts_of_hats-requires-clause-live
darts_of_hats-requires-clause-live c =
    subst (All (Contains c.args.hats.now)) (sym (c.items.ensures ∙ c.list_of.ensures))
    (c.requires.live c.loop-v.v-index 0 c.loop-v-test.true)
