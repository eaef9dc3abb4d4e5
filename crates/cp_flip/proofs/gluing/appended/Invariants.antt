-- The lists of the vertices so far stand behind their rows.
use Rattle.cp_flip.specs.GluedLists.{AreAppended}
use Rattle.cp_flip.proofs.gluing.appended.Given as goal

abbrev pub invariant-loop-k : goal.invariant-loop-k
invariant-loop-k l = AreAppended l.all l.verts l.edges l.lists l.k l.fn.rows.items l.new.items
