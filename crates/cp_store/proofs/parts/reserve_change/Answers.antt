use Rattle.std.proofs.Common.{subst}
use Rattle.std.specs.List.{All}
use Rattle.cp_board.specs.declared.parts.Vert.{Vert}
use Rattle.cp_board.specs.declared.parts.Pipe.{Pipe}
use Rattle.cp_store.specs.Exchanges.{entry_names, IsReserved}
use Rattle.cp_store.proofs.EdgeMoves.{row_name}
use Rattle.cp_store.proofs.Tables.{All-grown}
use Rattle.cp_store.proofs.parts.reserve_change.Goals as goal

pub returns-clause-room : goal.returns-clause-room
returns-clause-room c =
    let second = entry_names c.reserve_entries-2.new.table.entries.items in
    let third = entry_names c.reserve_entries-3.new.table.entries.items in
    record {
      verts = subst (All (IsReserved (λ (v : Vert). v.name) (entry_names c.reserve_entries.new.table.entries.items))) c.as_slice.ensures.value c.in_ok-reserve_entries.ensures.ok;
      moved = All-grown row_name second third c.args.plan.now.moved.items c.reserve_entries-3.ensures.grown.names
          (subst (All (IsReserved row_name second)) c.as_slice-2.ensures.value c.in_ok-reserve_entries-2.ensures.ok);
      edges = subst (All (IsReserved row_name third)) c.as_slice-3.ensures.value c.in_ok-reserve_entries-3.ensures.ok;
      pipes = subst (All (IsReserved (λ (p : Pipe). p.name) (entry_names c.reserve_entries-4.new.table.entries.items))) c.as_slice-4.ensures.value c.in_ok-reserve_entries-4.ensures.ok;
    }
