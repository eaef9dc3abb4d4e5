use Rattle.std.proofs.Common.{arith}
use Rattle.cp_report.proofs.RowLemmas.{rows_written}
use Rattle.cp_report.proofs.write.push_rows.Goals as goal

pub loop-list-preserved : goal.loop-list-preserved
loop-list-preserved c = record {
  count = omega (arith, c.loop-list.invariant.count);
  written = rows_written c.args.row c.args.first c.loop-list.list-index c.loop-list.number c.args.lists.now
      c.list-item.result c.args.text.now.items c.loop-list.text.items c.push_list.new.text.items
      (omega arith) c.list-item.is c.loop-list.invariant.count c.loop-list.invariant.written
      (rw c.items.ensures at c.in_ok-push_list.ensures);
}
