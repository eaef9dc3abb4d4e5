use Rattle.std.proofs.Common.{[], subst, sym}
use Rattle.cp_board.specs.declared.parts.EdgeRow.{EdgeRow}
use Rattle.cp_trace.specs.Faults.{AreToldEdges}
use Rattle.cp_trace.specs.Reading.{IsAbove}
use Rattle.cp_trace.specs.Texts.{edge_line}
use Rattle.cp_trace.proofs.LineWords.{edge_line_free}
use Rattle.cp_trace.proofs.ToldLists.{edges_push, last_name, next_edge, no_line_left, no_line_more, one_line_more}
use Rattle.cp_trace.proofs.read_lists.read_edges.Goals as goal

pub returns-in_default-next_edge : goal.returns-in_default-next_edge
returns-in_default-next_edge c = (
  c.loop-line.invariant.lines,
  no_line_more edge_line AreToldEdges c.loop-line.edges c.loop-line.rest.now c.in-Some.line.now c.in-Some.after.now
      (λ x may. edge_line_free x (next_edge c.loop-line.edges x [] may).0) c.in-Some.ensures.0 c.in-Some.ensures.1
      (λ x may h.
      let at = next_edge c.loop-line.edges x [] may in
      let none = c.in_default-next_edge.ensures in
      none x at.0 (subst (λ o. IsAbove o x.name) (sym c.loop-line.invariant.name) at.1) h),
)

pub loop-line-preserved : goal.loop-line-preserved
loop-line-preserved c =
    let told = c.in-Some-next_edge.ensures in
    let item = c.in-Some-next_edge.edge in
    let pushed = c.in_ok-push.ensures.ok in
    let above = subst (λ o. IsAbove o item.name) c.loop-line.invariant.name told.1 in
    rw pushed (record {
      lines = one_line_more edge_line AreToldEdges c.args.bytes.now c.loop-line.edges c.loop-line.rest.now
          c.in-Some.line.now c.in-Some.after.now item c.loop-line.invariant.lines c.in-Some.ensures.1 told.2
          (edges_push c.loop-line.edges item c.loop-line.invariant.lines.may told.0 above);
      name = sym (last_name (λ (x : EdgeRow). x.name) c.loop-line.edges item);
    })

pub returns : goal.returns
returns c = (
  c.loop-line.invariant.lines,
  no_line_left edge_line AreToldEdges c.loop-line.edges c.loop-line.rest.now c.in_default.ensures,
)
