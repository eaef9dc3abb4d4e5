-- No owner of a P-node has a given list: what is kept of a vertex with a list is a Q-node.
use Rattle.std.proofs.Common.{◌≡◌, ℕ, suc, Option, Some, None, List, [], ◌∷◌, length, map, slice_index, reverse, sym, refl, ap, ◌∙◌, subst, ⊎_elim}
use Rattle.cp_pq.specs.declared.node.Node.TheVariants.{Leaf, P}
use Rattle.cp_pq.specs.declared.part.Part.{Part}
use Rattle.cp_pq.specs.Nodes.{IsIn, itself}
use Rattle.cp_pq.specs.Owners.{KeepsOwners}
use Rattle.cp_pq.specs.Trees.{PQTree}
use Rattle.cp_force.specs.Owners.{IsSoleP}
use Rattle.cp_embed.specs.declared.taking.Frame.{Frame}
use Rattle.cp_embed.specs.BuiltTrees.{IsBuilt, IsUnwindable}
use Rattle.cp_embed.specs.ListedBlocks.{ListedGraph, list_given}
use Rattle.cp_embed.specs.OwnedTrees.{HaveOwner, HasFreeOwners}
use Rattle.cp_embed.specs.TreeSteps.{IsTreeStep}
use Rattle.cp_embed.specs.VertexOrders.{edges_in, edges_out}
use Rattle.cp_embed.proofs.Sides.{in_star, in_row}

-- where the only owner has no given list
pub owner-HasFreeOwners : (block : ListedGraph) (v : ℕ) (tree : PQTree) → HaveOwner v tree
    → list_given block.lists v ≡ None → HasFreeOwners block tree
owner-HasFreeOwners block v tree own none owner kids h = ap (list_given block.lists) (own owner kids h) ∙ none

-- a tree with the owners of another has no other owner
kept-HasFreeOwners : (block : ListedGraph) (old new : PQTree) → KeepsOwners old.body new.body
    → HasFreeOwners block old → HasFreeOwners block new
kept-HasFreeOwners block old new keeps free owner kids h = let o = keeps owner kids h in free owner o.0 o.1

-- a vertex that is taken becomes an owner only where it has no given list
step-HasFreeOwners : (block : ListedGraph) (given : Option (List ℕ)) (x : ℕ) (ins outs : List ℕ) (old new : PQTree)
    (part : Part) → list_given block.lists x ≡ given → IsTreeStep given x ins outs old new part
    → HasFreeOwners block old → HasFreeOwners block new
step-HasFreeOwners block None x ins outs old new part is s free owner kids h = ⊎_elim
    (λ own. ap (list_given block.lists) (in_star owner x kids outs (subst (IsIn (P owner kids)) s.node_is own)).0 ∙ is)
    (λ w. kept-HasFreeOwners block old s.mid s.reduced.owners free owner w.0 w.1)
    (s.replaced.owners owner kids h)
step-HasFreeOwners block (Some list) x ins outs old new part is s free owner kids h = ⊎_elim
    (λ own. absurd (in_row owner x kids (reverse s.second) (subst (IsIn (P owner kids)) s.node_is own)))
    (λ w. kept-HasFreeOwners block old s.mid s.forced.owners free owner w.0 w.1)
    (s.replaced.owners owner kids h)

-- so it is with a tree that is built
built-HasFreeOwners : (block : ListedGraph) (order later : List ℕ) (root : ℕ) (frames : List Frame) (tree : PQTree)
    → IsBuilt block order later root frames tree → HasFreeOwners block tree
built-HasFreeOwners block order later root [] tree built = built.2
built-HasFreeOwners block order later root (frame ∷ frames) tree built =
    let x : ℕ = slice_index order (suc (length frames)) in
    step-HasFreeOwners block (list_given block.lists x) x (edges_in block.graph.ends later x)
    (edges_out block.graph.ends later x) built.0 tree frame.part refl built.2.step
    (built-HasFreeOwners block order later root frames built.0 built.1)

-- the owner of the body of the tree of a vertex has no given list
pub way-unlisted : (block : ListedGraph) (t first : ℕ) (frames : List Frame) (tree : PQTree)
    → IsUnwindable block t first frames tree → (v : ℕ) → IsSoleP tree v → list_given block.lists v ≡ None
way-unlisted block t first frames tree way v sole =
    built-HasFreeOwners block way.order way.later way.root (reverse frames) tree way.built v (map Leaf sole.0)
    (subst (IsIn (P v (map Leaf sole.0))) (sym sole.1) itself)
