use Rattle.std.proofs.Common.{sym, subst, ◌∙◌}
use Rattle.std.specs.List.{All, Contains}
use Rattle.cp_board.specs.Instances.{vert_names}
use Rattle.cp_trace.proofs.NamedParts.{all_contained}
use Rattle.cp_trace.proofs.named_parts.names_by_ends.Goals as goal

pub push_pipes_from-requires : goal.push_pipes_from-requires
push_pipes_from-requires c =
    subst (All (Contains (vert_names c.args.i.now))) (sym (c.as_slice.ensures.value ∙ c.in_ok-verts.ensures.names))
    (all_contained (vert_names c.args.i.now))
