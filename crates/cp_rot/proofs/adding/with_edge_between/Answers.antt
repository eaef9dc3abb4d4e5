use Rattle.std.proofs.Common.{◌∙◌, ap, ◌++◌, ◌∷◌, [], slice_index}
use Rattle.cp_rot.proofs.InsertCode.{edge_is}
use Rattle.cp_rot.proofs.adding.with_edge_between.Goals as goal

pub returns : goal.returns
returns c =
    let at = c.args.at.now in
    let first = c.in_ok-push.ensures.items ∙ ap (λ xs. xs ++ slice_index at c.args.d ∷ []) c.in_ok-new_at.ensures.items in
    let both = c.in_ok-push-2.ensures.items ∙ ap (λ xs. xs ++ slice_index at c.args.f ∷ []) first in
    edge_is c.args.d c.args.f c.before_second-g.result at c.args.lists.now c.requires.rotation c.before_second-g.ensures both c.in_ok-new_lists.ensures
