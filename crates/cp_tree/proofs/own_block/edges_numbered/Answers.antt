-- One edge more is kept exactly where it has the number.
use Rattle.std.proofs.Common.{ℕ, Vec, Global, ap, ◌∙◌}
use Rattle.cp_tree.proofs.NumberedEdges.{numbered-more, numbered-other}
use Rattle.cp_tree.proofs.own_block.edges_numbered.Goals as goal
use Rattle.cp_tree.proofs.own_block.edges_numbered.Goals.{then-numbers-k+in_ok-push, else-numbers-k}

pub loop-k-preserved : goal.loop-k-preserved
loop-k-preserved c = elim c.if-numbers-k.branch [
  | then-numbers-k+in_ok-push w ↦
      ap (λ (v : Vec ℕ Global). v.items) w.kept-is
      ∙ w.in_ok-push.ensures.items
      ∙ numbered-more c.args.edges.now c.args.numbers.now c.loop-k.kept.items c.args.number c.loop-k.k
      c.requires.rising c.loop-k-test.true w.if-numbers-k.true c.loop-k.invariant
  | else-numbers-k w ↦
      ap (λ (v : Vec ℕ Global). v.items) w.kept-is
      ∙ numbered-other c.args.edges.now c.args.numbers.now c.loop-k.kept.items c.args.number c.loop-k.k
      c.requires.rising c.loop-k-test.true w.if-numbers-k.false c.loop-k.invariant
]
