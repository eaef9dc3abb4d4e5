use Rattle.std.proofs.Common.{◌∷◌, [], ℕ, List, subst, arith, length-append}
use Rattle.cp_report.specs.Reading.{IsListLine}
use Rattle.cp_report.proofs.RowLemmas.{rows_more, no_row_at, no_row_without_feed}
use Rattle.cp_report.proofs.read.read_rows.Goals as goal

pub returns-in-None : goal.returns-in-None
returns-in-None c =
    let told = rw c.in-None.is at c.in_ok-list.ensures in
    let none = subst (λ n. (items : List ℕ) → IsListLine c.args.row n c.in-Some.line.now items → ⊥)
    c.loop-line.invariant.count told in (
      c.loop-line.invariant.rows,
      no_row_at c.args.row _ _ c.in-Some.line.now c.in-Some.after.now c.in-Some.ensures.0
          c.in-Some.ensures.1 none,
    )

pub loop-line-preserved : goal.loop-line-preserved
loop-line-preserved c =
    let told = rw c.in-Some-2.is at c.in_ok-list.ensures in
    let it = subst (λ n. IsListLine c.args.row n c.in-Some.line.now c.in-Some-2.list) c.loop-line.invariant.count
    told in
    let pushed = c.in_ok-push-in-Some-2.ensures.ok in
    rw pushed (record {
      rows = rows_more c.args.row c.args.first c.args.bytes.now c.loop-line.lists c.loop-line.rest.now
          c.in-Some.line.now c.in-Some.after.now c.in-Some-2.list c.loop-line.invariant.rows c.in-Some.ensures.1 it;
      count = omega (arith, c.loop-line.invariant.count, length-append c.loop-line.lists (c.in-Some-2.list ∷ []));
    })

pub returns : goal.returns
returns c = (c.loop-line.invariant.rows, no_row_without_feed c.args.row _ _ c.in_default.ensures)
