use Rattle.std.proofs.Common.{ℕ, Bool, take}
use Rattle.cp_store.specs.Forests.{Keeps}
use Rattle.cp_store.specs.Links.{IsLinkTree, HasLinks}
use Rattle.cp_store.specs.EdgeLinks.{added_links}
use Rattle.cp_store.proofs.edge_links.with_edges.Given as goal

abbrev pub invariant-loop-e : goal.invariant-loop-e
invariant-loop-e l =
    Keeps l.initial.forest l.forest × IsLinkTree l.forest l.tree
    × ((test : ℕ → ℕ → Bool) → HasLinks l.initial.forest l.root test
    → HasLinks l.forest l.tree (added_links (take l.e-index l.edges) test))
