-- The variants of a node told apart, and induction.
use Rattle.std.proofs.Common.{◌≡◌, ℕ, List, [], ◌∷◌, ◌++◌, map, flat_map, refl, sym, ap, ◌∙◌, append-nil}
use Rattle.std.proofs.lemmas.List.Concat.{flat_map-append}
use Rattle.cp_pq.specs.declared.node.Node.{Node}
use Rattle.cp_pq.specs.declared.node.Node.TheOpen.{Node-F}
use Rattle.cp_pq.specs.declared.node.Node.TheViews.{out-Node, out-roll-Node}
use Rattle.cp_pq.specs.declared.node.Node.TheFolds.{fold-roll-Node}
use Rattle.cp_pq.specs.declared.node.Node.TheVariants.{Leaf, P, Q, rolls-Leaf, rolls-P, rolls-Q}
use Rattle.cp_pq.specs.Nodes.{leaves, leaves_step, all_leaves}

-- the layer of a P-node
pub out_P : (o : ℕ) (ks : List Node) → out-Node (P o ks) ≡ Node-F.P o ks
out_P o ks = ap out-Node (sym (rolls-P o ks)) ∙ out-roll-Node (Node-F.P o ks)

-- the layer of a Q-node
pub out_Q : (v : ℕ) (ks : List Node) → out-Node (Q v ks) ≡ Node-F.Q v ks
out_Q v ks = ap out-Node (sym (rolls-Q v ks)) ∙ out-roll-Node (Node-F.Q v ks)

-- the layer of a leaf
pub out_Leaf : (x : ℕ) → out-Node (Leaf x) ≡ Node-F.Leaf x
out_Leaf x = ap out-Node (sym (rolls-Leaf x)) ∙ out-roll-Node (Node-F.Leaf x)

-- equal P-nodes have the same owner and the same kids
pub P_P : (a b : ℕ) (ks js : List Node) → P a ks ≡ P b js → (a ≡ b) × (ks ≡ js)
P_P a b ks js e = let h : Node-F.P a ks ≡ Node-F.P b js = sym (out_P a ks) ∙ ap out-Node e ∙ out_P b js in (cc, cc)

-- equal Q-nodes have the same var and the same kids
pub Q_Q : (a b : ℕ) (ks js : List Node) → Q a ks ≡ Q b js → (a ≡ b) × (ks ≡ js)
Q_Q a b ks js e = let h : Node-F.Q a ks ≡ Node-F.Q b js = sym (out_Q a ks) ∙ ap out-Node e ∙ out_Q b js in (cc, cc)

-- a P-node is no Q-node
pub P_Q : (a b : ℕ) (ks js : List Node) → P a ks ≡ Q b js → ⊥
P_Q a b ks js e = let h : Node-F.P a ks ≡ Node-F.Q b js = sym (out_P a ks) ∙ ap out-Node e ∙ out_Q b js in cc

-- a leaf is no P-node
pub Leaf_P : (x b : ℕ) (js : List Node) → Leaf x ≡ P b js → ⊥
Leaf_P x b js e = let h : Node-F.Leaf x ≡ Node-F.P b js = sym (out_Leaf x) ∙ ap out-Node e ∙ out_P b js in cc

-- and no Q-node
pub Leaf_Q : (x b : ℕ) (js : List Node) → Leaf x ≡ Q b js → ⊥
Leaf_Q x b js e = let h : Node-F.Leaf x ≡ Node-F.Q b js = sym (out_Leaf x) ∙ ap out-Node e ∙ out_Q b js in cc

-- to join the lists of the nodes of a row is to map and join at once
pub flat_map_map : (f : Node → List ℕ) (ks : List Node) → flat_map (λ (ls : List ℕ). ls) (map f ks) ≡ flat_map f ks
flat_map_map f [] = refl
flat_map_map f (k ∷ ks) = ap (λ l. f k ++ l) (flat_map_map f ks)

-- a leaf has itself as its leaves
pub leaves_Leaf : (x : ℕ) → leaves (Leaf x) ≡ x ∷ []
unfolding leaves
leaves_Leaf x = ap leaves (sym (rolls-Leaf x)) ∙ fold-roll-Node (List ℕ) leaves_step (Node-F.Leaf x)

-- a P-node has the leaves of its kids
pub leaves_P : (o : ℕ) (ks : List Node) → leaves (P o ks) ≡ all_leaves ks
unfolding leaves all_leaves
leaves_P o ks = ap leaves (sym (rolls-P o ks)) ∙ fold-roll-Node (List ℕ) leaves_step (Node-F.P o ks) ∙ flat_map_map leaves ks

-- and so does a Q-node
pub leaves_Q : (v : ℕ) (ks : List Node) → leaves (Q v ks) ≡ all_leaves ks
unfolding leaves all_leaves
leaves_Q v ks = ap leaves (sym (rolls-Q v ks)) ∙ fold-roll-Node (List ℕ) leaves_step (Node-F.Q v ks) ∙ flat_map_map leaves ks

-- the leaves of a row are those of its first node, then those of the others
pub all_leaves_cons : (k : Node) (ks : List Node) → all_leaves (k ∷ ks) ≡ leaves k ++ all_leaves ks
unfolding all_leaves
all_leaves_cons k ks = refl

-- the leaves of two rows are those of the one, then those of the other
pub all_leaves_append : (ks js : List Node) → all_leaves (ks ++ js) ≡ all_leaves ks ++ all_leaves js
unfolding all_leaves
all_leaves_append ks js = flat_map-append leaves ks js

-- the empty row has no leaves
pub all_leaves_nil : all_leaves [] ≡ []
unfolding all_leaves
all_leaves_nil = refl

-- a row of one node has its leaves
pub all_leaves_one : (k : Node) → all_leaves (k ∷ []) ≡ leaves k
all_leaves_one k = all_leaves_cons k [] ∙ ap (λ z. leaves k ++ z) all_leaves_nil ∙ append-nil (leaves k)
