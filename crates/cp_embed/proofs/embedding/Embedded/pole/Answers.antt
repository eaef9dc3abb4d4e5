-- The owner of the tree's body, which is the other pole of a bond.
use Rattle.std.proofs.Common.{◌≡◌, ℕ, ◌≤◌, Option, Some, None, length, subst}
use Rattle.std.specs.Prelude.{MatchOption}
use Rattle.cp_conn.specs.Bonds.{IsBond}
use Rattle.cp_force.specs.Owners.{IsSoleP}
use Rattle.cp_pq.specs.Nodes.{leaves}
use Rattle.cp_pq.specs.Trees.{PQTree, IsWellFormed}
use Rattle.cp_embed.specs.Bonds.{as_named}
use Rattle.cp_embed.specs.Embeddings.{Embedding, HasSomePair}
use Rattle.cp_embed.specs.EveryOrder.{HasEveryOrder}
use Rattle.cp_embed.specs.ListedBlocks.{list_given}
use Rattle.cp_embed.proofs.BondedOwners.{way-IsWellFormed, way-IsBond, match_owner}
use Rattle.cp_embed.proofs.FreeOwners.{way-unlisted}
use Rattle.cp_embed.proofs.EveryOrders.{sole-HasEveryOrder, every_order-IsSoleP}
use Rattle.cp_embed.proofs.embedding.Embedded.pole.Goals as goal

-- whether each order is one of the tree, by its owner
match_both : (found : Option ℕ) (tree : PQTree) → IsWellFormed tree → HasSomePair tree
    → MatchOption found ((owner : ℕ) → IsSoleP tree owner → ⊥) (IsSoleP tree)
    → MatchOption found (3 ≤ length (leaves tree.body) → HasEveryOrder tree → ⊥) (λ owner. HasEveryOrder tree)
match_both None tree formed some m = λ three every. let w = every_order-IsSoleP tree formed three every in m w.0 w.1
match_both (Some v) tree formed some m = sole-HasEveryOrder tree v m some

pub returns-clause-owner : goal.returns-clause-owner
returns-clause-owner g c =
    subst (λ (m : Embedding). MatchOption c.sole_owner.result ((owner : ℕ) → IsSoleP m.tree owner → ⊥) (IsSoleP m.tree))
    c.self.view_is c.sole_owner.ensures

pub returns-clause-bond : goal.returns-clause-bond
returns-clause-bond g c =
    subst (λ (m : Embedding). MatchOption c.sole_owner.result (Unit {0}) (IsBond (as_named m.block.graph) m.vertex))
    c.self.view_is
    (match_owner ((owner : ℕ) → IsSoleP (g.T.OrderTree.tree c.self.inside.tree) owner → ⊥)
    (IsSoleP (g.T.OrderTree.tree c.self.inside.tree)) (IsBond (as_named c.self.inside.block.graph) c.self.inside.vertex)
    c.sole_owner.result
    (way-IsBond c.self.inside.block c.self.inside.vertex c.self.inside.first c.self.inside.frames
    (g.T.OrderTree.tree c.self.inside.tree) c.self.invariant.1)
    c.sole_owner.ensures)

pub returns-clause-every_order : goal.returns-clause-every_order
returns-clause-every_order g c =
    subst (λ (m : Embedding). MatchOption c.sole_owner.result (3 ≤ length (leaves m.tree.body) → HasEveryOrder m.tree → ⊥)
    (λ owner. HasEveryOrder m.tree))
    c.self.view_is
    (match_both c.sole_owner.result (g.T.OrderTree.tree c.self.inside.tree)
    (way-IsWellFormed c.self.inside.block c.self.inside.vertex c.self.inside.first c.self.inside.frames
    (g.T.OrderTree.tree c.self.inside.tree) c.self.invariant.1)
    c.self.invariant.0.some_pair c.sole_owner.ensures)

pub returns-clause-unlisted : goal.returns-clause-unlisted
returns-clause-unlisted g c =
    subst (λ (m : Embedding). MatchOption c.sole_owner.result (Unit {0}) (λ owner. list_given m.block.lists owner ≡ None))
    c.self.view_is
    (match_owner ((owner : ℕ) → IsSoleP (g.T.OrderTree.tree c.self.inside.tree) owner → ⊥)
    (IsSoleP (g.T.OrderTree.tree c.self.inside.tree)) (λ owner. list_given c.self.inside.block.lists owner ≡ None)
    c.sole_owner.result
    (way-unlisted c.self.inside.block c.self.inside.vertex c.self.inside.first c.self.inside.frames
    (g.T.OrderTree.tree c.self.inside.tree) c.self.invariant.1)
    c.sole_owner.ensures)
