-- What the order tree of a vertex of a block says of it, in the names of the block's vertices and edges.
use Rattle.std.specs.Prelude.{◌≡◌, ℕ, ◌<◌, ◌≤◌, List, length, slice_index, None}
use Rattle.cp_conn.specs.Bonds.{IsBond}
use Rattle.cp_force.specs.Owners.{IsSoleP}
use Rattle.cp_force.specs.Shapes.{shape_of_tree}
use Rattle.cp_base.specs.declared.shape.Shape.{Shape}
use Rattle.cp_pq.specs.Nodes.{leaves}
use Rattle.cp_pq.specs.Trees.{IsWellFormed}
use Rattle.cp_embed.specs.Bonds.{as_named}
use Rattle.cp_embed.specs.Embeddings.{Embedding}
use Rattle.cp_embed.specs.EveryOrder.{HasEveryOrder}
use Rattle.cp_embed.specs.ListedBlocks.{list_given}
use Rattle.cp_embed.specs.declared.fault.EmbedFault.{EmbedFault}
use Rattle.cp_embed.specs.declared.fault.EmbedFault.TheVariants as embed
use Rattle.cp_tree.specs.declared.fault.TreeFault.{TreeFault}
use Rattle.cp_tree.specs.declared.fault.TreeFault.TheVariants as fault
use Rattle.cp_tree.specs.declared.end_tree.EndTree.{EndTree}
use Rattle.cp_tree.specs.declared.end_tree.EndTree.TheVariants as end
use Rattle.cp_tree.specs.Naming.{renamed_shape}

-- v is the name of a vertex without a given list that is the other pole of a bond, and the tree has every order
pub record IsNamedPole (verts : List ℕ) (m : Embedding) (v : ℕ) : Type 0 where
  pub pole : ℕ
  pub within : pole < length verts
  pub named : v ≡ slice_index verts pole
  pub bond : IsBond (as_named m.block.graph) m.vertex pole
  pub unlisted : list_given m.block.lists pole ≡ None
  pub every_order : HasEveryOrder m.tree

-- s is the shape of the tree with the names of the edges; its body is no star of leaves, and it has not every order
pub record IsNamedShape (edges : List ℕ) (m : Embedding) (s : Shape) : Type 0 where
  pub shape : s ≡ renamed_shape (slice_index edges) (shape_of_tree m.tree)
  pub formed : IsWellFormed m.tree
  pub no_star : (owner : ℕ) → ¬ IsSoleP m.tree owner
  pub not_every : 3 ≤ length (leaves m.tree.body) → ¬ HasEveryOrder m.tree

-- the one or the other
abbrev pub IsNamedTree : List ℕ → List ℕ → Embedding → EndTree → Type 0
IsNamedTree verts edges m (end.Pole v) = IsNamedPole verts m v
IsNamedTree verts edges m (end.Shape s) = IsNamedShape edges m s

-- where an edge is told, the block has no embedding, and this is the first of its edges
abbrev pub IsFaultOf : EmbedFault → List ℕ → TreeFault → Type 0
IsFaultOf why edges told =
    (e : ℕ) → told ≡ fault.NotPlanar e → (why ≡ embed.NotPlanar) × (e ≡ slice_index edges 0)
