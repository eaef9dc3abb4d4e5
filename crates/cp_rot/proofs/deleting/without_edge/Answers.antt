use Rattle.cp_rot.proofs.RewriteCode.{deleted_is}
use Rattle.cp_rot.proofs.deleting.without_edge.Goals as goal

pub returns : goal.returns
returns c = deleted_is c.args.e c.args.at.now c.args.lists.now c.in_ok-new_at.ensures c.in_ok-new_lists.ensures
