-- The vertices before the place are taken.
use Rattle.std.proofs.Common.{◌≡◌, suc, length, reverse}
use Rattle.cp_embed.specs.BuiltTrees.{IsBuilt}
use Rattle.cp_embed.proofs.embedding.embed.Given as goal

abbrev pub invariant-loop-place : goal.invariant-loop-place
invariant-loop-place g l = record {
  count : suc (length l.frames) ≡ l.place;
  built : IsBuilt l.block l.order.vertices.items l.order.later.items l.order.root (reverse l.frames)
      (g.T.OrderTree.tree l.tree);
}
