use Rattle.std.proofs.Common.{ℕ, Bool, take}
use Rattle.cp_store.specs.Forests.{Keeps}
use Rattle.cp_store.specs.Links.{IsLinkTree, HasLinks}
use Rattle.cp_store.specs.EdgeLinks.{moved_links}
use Rattle.cp_store.proofs.edge_links.with_moves.Given as goal

abbrev pub invariant-loop-m : goal.invariant-loop-m
invariant-loop-m l =
    Keeps l.initial.forest l.forest × IsLinkTree l.forest l.tree
    × ((test : ℕ → ℕ → Bool) → HasLinks l.initial.forest l.root test
    → HasLinks l.forest l.tree (moved_links (take l.m-index l.moves) test))
