use Rattle.std.proofs.Common.{◌≡◌, ◌≤◌, true, false, List, [], ◌∷◌, ◌++◌, reverse, refl, sym, ap, ◌∙◌, subst, append-nil, arith}
use Rattle.cp_pq.specs.Orders.{inside, outside}
use Rattle.cp_pq.specs.declared.node.Node.{Node}
use Rattle.cp_pq.specs.Words.{has_all}
use Rattle.cp_pq.specs.Frames.{node_of}
use Rattle.cp_pq.specs.Steps.{IsStep, IsGathered, count_in}
use Rattle.cp_pq.specs.Marks.{AreMarks, IsLow}
use Rattle.cp_pq.specs.declared.step.Row.{Row}
use Rattle.cp_pq.proofs.Results.{IfOk-map}
use Rattle.cp_pq.proofs.MarkLaws.{marks_taken, marks_parted}
use Rattle.cp_pq.proofs.GatheredRows.{low_kids, inner_out, inner_in, none_gathered, taken_last, low_last}
use Rattle.cp_pq.proofs.NodeCounts.{nodes_P, nodes_Q, nodes_last}
use Rattle.cp_pq.proofs.gather.+gathers.Goals as goal

pub gather-gather_inner-requires : goal.gather-gather_inner-requires
gather-gather_inner-requires t c =
    let n = nodes_P c.args.node c.in-P.owner c.in-P.kids c.in-P.is in (omega (arith, n, c.decreases), tt)

pub gather-gather_inner-requires-in-Q : goal.gather-gather_inner-requires-in-Q
gather-gather_inner-requires-in-Q t c =
    let n = nodes_Q c.args.node c.in-Q.var c.in-Q.row c.in-Q.is in (omega (arith, n, c.decreases), tt)

pub gather_inner-returns-then-is_out : goal.gather_inner-returns-then-is_out
gather_inner-returns-then-is_out t c = λ rest l a.
    let set = c.args.set.now in let r = c.last_mark-left.result in
    let f = marks_taken (outside set) (inside set) c.args.label c.args.kids rest c.args.marks r.1 r.0 a c.last_mark-left.ensures in
    inner_out set c.args.total c.args.label c.args.kids rest r.1 r.0 c.node.result c.node.ensures l
    (sym c.is_out.ensures ∙ c.if-is_out.true) f

pub gather_inner-returns-then-is_in : goal.gather_inner-returns-then-is_in
gather_inner-returns-then-is_in t c = λ rest l a.
    let set = c.args.set.now in let r = c.last_mark-left.result in
    let f = marks_taken (outside set) (inside set) c.args.label c.args.kids rest c.args.marks r.1 r.0 a c.last_mark-left.ensures in
    let h = inner_in set c.args.total c.args.label c.args.kids rest r.1 r.0 l (sym c.is_in.ensures ∙ c.if-is_in.true) f in
    let e = c.node-then-is_in.ensures in
    let q = outside set in let p = inside set in (
      subst (λ z. IsStep q p c.args.total z c.whole_step-whole.result) e
          (c.whole_step-whole.ensures q p (λ x. refl) (subst (λ z. has_all q z ≡ false) (sym e) h.0)
          (subst (λ z. has_all p z ≡ true) (sym e) h.1) (subst (λ z. r.0.count ≡ count_in p z) (sym e) h.2)
          (subst (λ z. count_in p z ≤ c.args.total) (sym e) h.3)),
      h.4,
    )

pub gather_inner-returns : goal.gather_inner-returns
gather_inner-returns t c =
    let set = c.args.set.now in let r = c.last_mark-left.result in
    let q = outside set in let p = inside set in let n = node_of c.args.label c.args.kids in
    IfOk-map _ (λ z. (rest : List Node) → IsLow set c.args.total (n ∷ []) → AreMarks q p (n ∷ rest) c.args.marks
    → IsStep q p c.args.total n z.0 × AreMarks q p rest z.1)
    (λ z h rest l a.
    let f = marks_taken q p c.args.label c.args.kids rest c.args.marks r.1 r.0 a c.last_mark-left.ensures in
    h rest l (marks_parted q p c.args.kids rest r.1 r.0 (sym c.is_out.ensures ∙ c.if-is_out.false) (sym c.is_in.ensures ∙ c.if-is_in.false) f))
    c.gather_row.result c.gather_row.ensures

pub gather_row-loop-kid-init : goal.gather_row-loop-kid-init
gather_row-loop-kid-init t c = (
  [],
  refl,
  omega arith,
  λ rest l a. (none_gathered (outside c.args.set.now) (inside c.args.set.now) c.args.total _ (ap (λ z. Row.Open z 0) c.new.ensures), a),
)

pub gather_row-gather-requires : goal.gather_row-gather-requires
gather_row-gather-requires t c =
    let n = (nodes_last c.loop-kid.left c.pop.new.self c.in-Some.kid _ c.in-Some.ensures c.loop-kid.invariant.2).0 in
    (omega (arith, n, c.decreases), tt)

pub gather_row-loop-kid-preserved : goal.gather_row-loop-kid-preserved
gather_row-loop-kid-preserved t c =
    let inv = c.loop-kid.invariant in let k = c.in-Some.kid in let left = c.pop.new.self in
    let q = outside c.args.set.now in let p = inside c.args.set.now in
    let n = taken_last c.args.set.now c.args.total c.args.kids inv.0 c.loop-kid.left left k inv.1 c.in-Some.ensures in (
      inv.0 ++ k ∷ [],
      n.0,
      (nodes_last c.loop-kid.left left k _ c.in-Some.ensures inv.2).1,
      λ rest l a.
          let h = inv.3 rest l a in
          let low = low_last c.args.set.now c.args.total c.args.kids inv.0 left k n.0 l in
          let s = c.in_ok-step.ensures (reverse left ++ rest) low.0 (subst (λ z. AreMarks q p (z ++ rest) c.loop-kid.ahead) n.1 h.1) in
          (c.in_ok-row.ensures q p c.args.total inv.0 k (λ x. refl) l.some c.ranges.total.fits low.1 s.0 h.0, s.1),
    )

pub gather_row-returns : goal.gather_row-returns
gather_row-returns t c = λ rest l a.
    let inv = c.loop-kid.invariant in
    let q = outside c.args.set.now in let p = inside c.args.set.now in
    let e = ap reverse c.in_default.ensures.0 in
    let k = low_kids c.args.set.now c.args.total c.args.label c.args.kids l in
    let h = inv.3 rest k.0 a in (
      c.in_ok-whole.ensures q p c.args.kids (λ x. refl)
          (subst (λ z. IsGathered q p c.args.total z c.loop-kid.row) (sym (inv.1 ∙ ap (λ z. inv.0 ++ z) e ∙ append-nil inv.0)) h.0)
          k.1 k.0.some k.0.low,
      subst (λ z. AreMarks q p (z ++ rest) c.loop-kid.ahead) e h.1,
    )
