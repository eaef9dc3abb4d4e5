-- The edges of the parts are among those of the pairs.
use Rattle.std.proofs.Common.{◌∙◌, sym, subst}
use Rattle.std.specs.List.{All, Contains}
use Rattle.cp_join.proofs.joins.all_pipes.Goals as goal

pub push_pipes-requires-clause-among : goal.push_pipes-requires-clause-among
push_pipes-requires-clause-among c =
    subst (λ es. All (All (Contains es)) c.args.first.now.parts) (sym (c.as_slice.ensures.value ∙ c.in_ok-firsts.ensures))
    c.requires.firsts

pub push_pipes-requires-2-clause-among : goal.push_pipes-requires-2-clause-among
push_pipes-requires-2-clause-among c =
    subst (λ es. All (All (Contains es)) c.args.second.now.parts)
    (sym (c.as_slice-2.ensures.value ∙ c.in_ok-seconds.ensures)) c.requires.seconds
