use Rattle.std.proofs.Common.{[], subst, sym}
use Rattle.cp_board.specs.declared.parts.Vert.{Vert}
use Rattle.cp_trace.specs.Faults.{AreToldVerts}
use Rattle.cp_trace.specs.Reading.{IsAbove}
use Rattle.cp_trace.specs.Texts.{vert_line}
use Rattle.cp_trace.proofs.LineWords.{vert_line_free}
use Rattle.cp_trace.proofs.ToldLists.{verts_push, last_name, next_vert, no_line_left, no_line_more, one_line_more}
use Rattle.cp_trace.proofs.read_lists.read_verts.Goals as goal

pub returns-in_default-2 : goal.returns-in_default-2
returns-in_default-2 c = (
  c.loop-line.invariant.lines,
  no_line_more vert_line AreToldVerts c.loop-line.verts c.loop-line.rest.now c.in-Some.line.now c.in-Some.after.now
      (λ x may. vert_line_free x (next_vert c.loop-line.verts x [] may).0) c.in-Some.ensures.0 c.in-Some.ensures.1
      (λ x may h.
      let at = next_vert c.loop-line.verts x [] may in
      let none = (rw c.in_default-2.is at c.in_ok-vert.ensures) in
      none x at.0 (subst (λ o. IsAbove o x.name) (sym c.loop-line.invariant.name) at.1) h),
)

pub loop-line-preserved : goal.loop-line-preserved
loop-line-preserved c =
    let told = rw c.in-Some-2.is at c.in_ok-vert.ensures in
    let item = c.in-Some-2.vert in
    let pushed = c.in_ok-push.ensures.ok in
    let above = subst (λ o. IsAbove o item.name) c.loop-line.invariant.name told.1 in
    rw pushed (record {
      lines = one_line_more vert_line AreToldVerts c.args.bytes.now c.loop-line.verts c.loop-line.rest.now
          c.in-Some.line.now c.in-Some.after.now item c.loop-line.invariant.lines c.in-Some.ensures.1 told.2
          (verts_push c.loop-line.verts item c.loop-line.invariant.lines.may told.0 above);
      name = sym (last_name (λ (x : Vert). x.name) c.loop-line.verts item);
    })

pub returns : goal.returns
returns c = (
  c.loop-line.invariant.lines,
  no_line_left vert_line AreToldVerts c.loop-line.verts c.loop-line.rest.now c.in_default.ensures,
)
