use Rattle.std.proofs.Common.{ℕ, Vec, Global, ap, not, ◌∙◌, arith}
use Rattle.cp_sync.specs.FreeNames.{is_free}
use Rattle.cp_sync.proofs.FreeNames.{first_passing-more, first_passing-full, first_passing-skip}
use Rattle.cp_sync.proofs.free.first_free.Goals as goal
use Rattle.cp_sync.proofs.free.first_free.Goals.{then-len-n+then-not-table-k+in_ok-push, then-len-n+else-not-table-k, else-len-n}

pub loop-k-preserved : goal.loop-k-preserved
loop-k-preserved c = elim c.if-len-n.branch [
  | then-len-n+then-not-table-k+in_ok-push w ↦
      ap (λ (v : Vec ℕ Global). v.items) w.names-is
      ∙ w.in_ok-push.ensures.items
      ∙ first_passing-more (is_free c.args.table.now) c.args.n c.loop-k.k c.loop-k.names.items c.loop-k.invariant
      (omega (arith, w.if-len-n.true, c.len.ensures)) (ap not w.if-not-table-k.true)
  | then-len-n+else-not-table-k w ↦
      ap (λ (v : Vec ℕ Global). v.items) w.names-is
      ∙ first_passing-skip (is_free c.args.table.now) c.args.n c.loop-k.k c.loop-k.names.items c.loop-k.invariant
      (ap not w.if-not-table-k.false)
  | else-len-n w ↦
      ap (λ (v : Vec ℕ Global). v.items) w.names-is
      ∙ first_passing-full (is_free c.args.table.now) c.args.n c.loop-k.k c.loop-k.names.items c.loop-k.invariant
      (omega (arith, w.if-len-n.false, c.len.ensures))
]
