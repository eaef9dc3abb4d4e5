-- Sides of P-nodes, and what it is to keep owners.
use Rattle.std.specs.Prelude.{◌≡◌, ℕ, ◌⊎◌, ◌↔◌, List}
use Rattle.cp_lists.specs.CyclicLists.{Has, Lacks}
use Rattle.cp_pq.specs.declared.node.Node.{Node}
use Rattle.cp_pq.specs.declared.node.Node.TheVariants.{P}
use Rattle.cp_pq.specs.Nodes.{leaves, all_leaves, IsKid, IsIn}

-- two leaves stand on one side of a P-node with these kids: in one kid, or both outside, where the root is
abbrev pub AreOnOneSide : List Node → ℕ → ℕ → Type 0
AreOnOneSide kids a b =
    ((k : Node) × IsKid k kids × Has a (leaves k) × Has b (leaves k)) ⊎ (Lacks a (all_leaves kids) × Lacks b (all_leaves kids))

-- leaves on different sides of the new P-node are on different sides of the old one: those on one side of the old one
-- are on one side of the new one
abbrev pub Fits : List Node → List Node → Type 0
Fits old new = (a b : ℕ) → AreOnOneSide old a b → AreOnOneSide new a b

-- each P-node in the new node has a fitting P-node with its owner in the old node
abbrev pub KeepsOwners : Node → Node → Type 0
KeepsOwners old new = (owner : ℕ) (kids : List Node) → IsIn (P owner kids) new
    → (old_kids : List Node) × IsIn (P owner old_kids) old × Fits old_kids kids

-- b stands in the new tree where a stands in the old one, when the leaves of the set are exchanged for fresh ones
abbrev pub IsExchangedFor : List ℕ → List ℕ → ℕ → ℕ → Type 0
IsExchangedFor set fresh a b = ((a ≡ b) × Lacks a set × Lacks b fresh) ⊎ (Has a set × Has b fresh)

-- each P-node in the new body is one of the part that was put in, or has the owner and the sides of a P-node of the old
-- body, where the set stands on one side and is exchanged for the leaves of the part
abbrev pub ExchangesOwners : List ℕ → Node → Node → Node → Type 0
ExchangesOwners set part old new = (owner : ℕ) (kids : List Node) → IsIn (P owner kids) new
    → IsIn (P owner kids) part
    ⊎ ((old_kids : List Node) × IsIn (P owner old_kids) old
    × ((a b : ℕ) → Has a set → Has b set → AreOnOneSide old_kids a b)
    × ((a b c d : ℕ) → IsExchangedFor set (leaves part) a c → IsExchangedFor set (leaves part) b d
    → AreOnOneSide old_kids a b ↔ AreOnOneSide kids c d))
