-- The numbers of nodes in nodes and rows.
use Rattle.std.proofs.Common.{◌≡◌, ℕ, suc, ◌+◌, ◌≤◌, List, [], ◌∷◌, ◌++◌, refl, sym, ap, ◌∙◌, arith}
use Rattle.cp_pq.specs.declared.node.Node.{Node}
use Rattle.cp_pq.specs.declared.node.Node.TheOpen.{Node-F}
use Rattle.cp_pq.specs.declared.node.Node.TheFolds.{fold-roll-Node}
use Rattle.cp_pq.specs.declared.node.Node.TheVariants.{P, Q, rolls-P, rolls-Q}
use Rattle.cp_pq.specs.Marks.{node_count, nodes_step, row_count}

-- a P-node has one node more than its kids
pub nodes_P : (n : Node) (o : ℕ) (ks : List Node) → n ≡ P o ks → node_count n ≡ suc (row_count ks)
unfolding node_count row_count
nodes_P n o ks e = ap node_count e ∙ ap node_count (sym (rolls-P o ks)) ∙ fold-roll-Node ℕ nodes_step (Node-F.P o ks)

-- and so has a Q-node
pub nodes_Q : (n : Node) (v : ℕ) (ks : List Node) → n ≡ Q v ks → node_count n ≡ suc (row_count ks)
unfolding node_count row_count
nodes_Q n v ks e = ap node_count e ∙ ap node_count (sym (rolls-Q v ks)) ∙ fold-roll-Node ℕ nodes_step (Node-F.Q v ks)

-- a row has the nodes of its first one and those of the others
nodes_cons : (k : Node) (ks : List Node) → row_count (k ∷ ks) ≡ node_count k + row_count ks
unfolding row_count
nodes_cons k ks = refl

-- the empty row has no nodes
nodes_nil : row_count [] ≡ 0
unfolding row_count
nodes_nil = refl

-- a row with one node more has the nodes of this node besides
nodes_push : (ks : List Node) (k : Node) → row_count (ks ++ k ∷ []) ≡ row_count ks + node_count k
nodes_push [] k = let a = nodes_cons k [] in let b = nodes_nil in omega (arith, a, b)
nodes_push (j ∷ ks) k =
    let a = nodes_cons j (ks ++ k ∷ []) in let b = nodes_cons j ks in let h = nodes_push ks k in omega (arith, a, b, h)

-- the last node of a row, and the others, have no more nodes than the row
pub nodes_last : (left new : List Node) (k : Node) (most : ℕ) → left ≡ new ++ k ∷ [] → row_count left ≤ most
    → (node_count k ≤ most) × (row_count new ≤ most)
nodes_last left new k most e le =
    let a = ap row_count e ∙ nodes_push new k in (omega (arith, a, le), omega (arith, a, le))
