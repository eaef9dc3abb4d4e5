use Rattle.std.proofs.Common.{sym, subst}
use Rattle.cp_board.specs.Instances.{IsSynchronized}
use Rattle.cp_board.specs.Rewrites.{IsRewriteOf}
use Rattle.cp_board.specs.Rows as rows
use Rattle.cp_sync.proofs.WorkedRows.{IsRewriteOf-first_join}
use Rattle.cp_sync.proofs.tests.first_and_joined.Goals as goal

pub rewrite-requires : goal.rewrite-requires
rewrite-requires c =
    subst (λ j. IsRewriteOf j c.in_ok-w.w) (sym c.in_ok-i.ensures)
    (subst (IsRewriteOf rows.first) (sym c.in_ok-w.ensures)
    (IsRewriteOf-first_join (subst IsSynchronized c.in_ok-joined.ensures.value c.in_ok-joined.ensures.rules)))
