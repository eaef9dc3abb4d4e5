use Rattle.std.proofs.Common.{◌≡◌, ◌∙◌, subst}
use Rattle.cp_board.specs.Instances.{IsSynchronized}
use Rattle.cp_board.specs.Rows as rows
use Rattle.cp_sync.specs.Faults.{with_parts}
use Rattle.cp_store.proofs.StoredStates.{same_parts}
use Rattle.cp_store.proofs.tests.joined_keeps_rules.Goals as goal

pub returns : goal.returns
returns c =
    let i = with_parts c.in_ok-verts.verts c.in_ok-edges.edges c.in_ok-pipes.pipes in
    let made = c.in_ok-_made.ensures in
    subst IsSynchronized (made.parts
    ∙ same_parts i rows.joined c.in_ok-verts.ensures c.in_ok-edges.ensures c.in_ok-pipes.ensures) made.rules
