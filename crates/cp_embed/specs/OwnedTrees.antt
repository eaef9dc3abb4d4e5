-- What the owners of the P-nodes tell of a block: where an owner and the vertices that are not taken are removed, edges
-- on different sides of its P-node are not connected.
use Rattle.std.specs.Prelude.{◌≡◌, ◌≢◌, ℕ, ◌*◌, ◌<◌, ◌⊎◌, None, List, length, map}
use Rattle.cp_lists.specs.CyclicLists.{Has}
use Rattle.cp_conn.specs.Darts.{start}
use Rattle.cp_faces.specs.Twins.{twin}
use Rattle.cp_pq.specs.declared.node.Node.{Node}
use Rattle.cp_pq.specs.declared.node.Node.TheVariants.{Leaf, P}
use Rattle.cp_pq.specs.Nodes.{IsIn}
use Rattle.cp_pq.specs.Owners.{AreOnOneSide, IsExchangedFor}
use Rattle.cp_pq.specs.Trees.{PQTree}
use Rattle.cp_embed.specs.Directions.{edge_of}
use Rattle.cp_embed.specs.ListedBlocks.{ListedGraph, list_given}
use Rattle.cp_embed.specs.Sweeps.{LeadsInto}

-- all P-nodes in the tree have the one owner
abbrev pub HaveOwner : ℕ → PQTree → Type 0
HaveOwner v tree = (owner : ℕ) (kids : List Node) → IsIn (P owner kids) tree.body → owner ≡ v

-- no owner of a P-node in the tree has a given list
abbrev pub HasFreeOwners : ListedGraph → PQTree → Type 0
HasFreeOwners block tree = (owner : ℕ) (kids : List Node) → IsIn (P owner kids) tree.body
    → list_given block.lists owner ≡ None

-- the old body has a P-node of this owner; where the edges of ins are exchanged for those of outs, which are all on one
-- side of these kids, what is on one side of it is on one side of these kids
pub record HasOldSides (ins outs : List ℕ) (old : Node) (owner : ℕ) (kids : List Node) : Type 0 where
  pub old_kids : List Node
  pub in_old : IsIn (P owner old_kids) old
  pub together : (c d : ℕ) → Has c outs → Has d outs → AreOnOneSide kids c d
  pub sides : (a b c d : ℕ) → IsExchangedFor ins outs a c → IsExchangedFor ins outs b d → AreOnOneSide old_kids a b
      → AreOnOneSide kids c d

-- x is taken: each P-node of the new tree has the owner x and the edges of outs as its kids, or the owner and the sides
-- of one of the old tree
abbrev pub IsOwnerStep : ℕ → List ℕ → List ℕ → PQTree → PQTree → Type 0
IsOwnerStep x ins outs old new = (owner : ℕ) (kids : List Node) → IsIn (P owner kids) new.body
    → ((owner ≡ x) × (kids ≡ map Leaf outs)) ⊎ HasOldSides ins outs old.body owner kids

-- a walk from p over vertices that are taken and are not v
pub data Reaches (at : ℕ → ℕ) (e : ℕ) (taken : List ℕ) (v p : ℕ) : ℕ → Type 0 where
  here : Reaches at e taken v p p
  over : (d q : ℕ) → Reaches at e taken v p (at d) → d < 2 * e → at (twin d) ≡ q → Has q taken → q ≢ v
      → Reaches at e taken v p q

-- edges a and b lead out of what is taken, and their ends there are connected behind v
pub record AreLinkedBehind (at : ℕ → ℕ) (e : ℕ) (taken : List ℕ) (v a b : ℕ) : Type 0 where
  pub from : ℕ
  pub to : ℕ
  pub from_is : edge_of from ≡ a
  pub to_is : edge_of to ≡ b
  pub from_leads : LeadsInto at e taken from
  pub to_leads : LeadsInto at e taken to
  pub from_apart : at (twin from) ≢ v
  pub to_apart : at (twin to) ≢ v
  pub walk : Reaches at e taken v (at (twin from)) (at (twin to))

-- the owner of each P-node is taken, and edges that are linked behind it are on one side of the P-node
abbrev pub HasOwners : ListedGraph → List ℕ → PQTree → Type 0
HasOwners block taken tree = (owner : ℕ) (kids : List Node) → IsIn (P owner kids) tree.body
    → Has owner taken × ((a b : ℕ)
    → AreLinkedBehind (start block.graph.ends) (length block.graph.ends) taken owner a b → AreOnOneSide kids a b)
