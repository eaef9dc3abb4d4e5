-- Tests of nodes, layer by layer: at least two kids, and vars below a number.
use Rattle.std.proofs.Common.{◌≡◌, ℕ, zero, suc, ◌<◌, ◌≤◌, Bool, true, false, ◌&&◌, List, [], ◌∷◌, length, map, get_or, refl, sym, ap, ap₂, ◌∙◌, arith}
use Rattle.std.specs.Prelude.{nat_lt}
use Rattle.std.specs.List.{list_all}
use Rattle.std.proofs.lemmas.Bool.{ltb-true, lt-ltb, and_parts, and_from}
use Rattle.cp_pq.specs.declared.node.Node.{Node}
use Rattle.cp_pq.specs.declared.node.Node.TheOpen.{Node-F}
use Rattle.cp_pq.specs.declared.node.Node.TheFolds.{fold-roll-Node}
use Rattle.cp_pq.specs.declared.node.Node.TheVariants.{Leaf, P, Q, rolls-Leaf, rolls-P, rolls-Q}
use Rattle.cp_pq.specs.Nodes.{is_branching, branching_step, has_vars_below, below_step}
use Rattle.cp_pq.specs.Words.{has_all}
use Rattle.cp_pq.proofs.NodeLayers.{leaves_Leaf}

-- a bit and true is the bit
pub and_true : (b : Bool) → (b && true) ≡ b
and_true true = refl
and_true false = refl

-- the results of a test are all true where all nodes of the row pass it
map_all : (f : Node → Bool) (ks : List Node) → list_all (λ (b : Bool). b) (map f ks) ≡ list_all f ks
map_all f [] = refl
map_all f (k ∷ ks) = ap (λ b. f k && b) (map_all f ks)

-- the results of a test are as many as the nodes of the row
map_long : (f : Node → Bool) (ks : List Node) → length (map f ks) ≡ length ks
map_long f [] = refl
map_long f (k ∷ ks) = let e = map_long f ks in omega (arith, e)

-- a leaf branches, as no inner node is in it
pub branching_Leaf : (x : ℕ) → is_branching (Leaf x) ≡ true
unfolding is_branching
branching_Leaf x = ap is_branching (sym (rolls-Leaf x)) ∙ fold-roll-Node Bool branching_step (Node-F.Leaf x)

-- a P-node branches where it has two kids or more and all kids branch
pub branching_P : (o : ℕ) (ks : List Node) → is_branching (P o ks) ≡ (nat_lt 1 (length ks) && list_all is_branching ks)
unfolding is_branching
branching_P o ks = ap is_branching (sym (rolls-P o ks)) ∙ fold-roll-Node Bool branching_step (Node-F.P o ks) ∙ ap₂ (λ a b. nat_lt 1 a && b) (map_long is_branching ks) (map_all is_branching ks)

-- and so does a Q-node
pub branching_Q : (o : ℕ) (ks : List Node) → is_branching (Q o ks) ≡ (nat_lt 1 (length ks) && list_all is_branching ks)
unfolding is_branching
branching_Q o ks = ap is_branching (sym (rolls-Q o ks)) ∙ fold-roll-Node Bool branching_step (Node-F.Q o ks) ∙ ap₂ (λ a b. nat_lt 1 a && b) (map_long is_branching ks) (map_all is_branching ks)

-- a leaf has no vars
pub below_Leaf : (m x : ℕ) → has_vars_below m (Leaf x) ≡ true
unfolding has_vars_below
below_Leaf m x = ap (has_vars_below m) (sym (rolls-Leaf x)) ∙ fold-roll-Node Bool (below_step m) (Node-F.Leaf x)

-- the vars of a P-node are below a number where those of its kids are
pub below_P : (m o : ℕ) (ks : List Node) → has_vars_below m (P o ks) ≡ list_all (has_vars_below m) ks
unfolding has_vars_below
below_P m o ks = ap (has_vars_below m) (sym (rolls-P o ks)) ∙ fold-roll-Node Bool (below_step m) (Node-F.P o ks) ∙ map_all (has_vars_below m) ks

-- the vars of a Q-node are below a number where its own is and those of its kids are
pub below_Q : (m o : ℕ) (ks : List Node) → has_vars_below m (Q o ks) ≡ (nat_lt o m && list_all (has_vars_below m) ks)
unfolding has_vars_below
below_Q m o ks = ap (has_vars_below m) (sym (rolls-Q o ks)) ∙ fold-roll-Node Bool (below_step m) (Node-F.Q o ks) ∙ ap (λ b. nat_lt o m && b) (map_all (has_vars_below m) ks)

-- the test of the one node
pub all_one : (f : Node → Bool) (n : Node) → list_all f (n ∷ []) ≡ f n
all_one f n = and_true (f n)

-- a P-node or Q-node that branches has two kids, which branch
pub branching_P_parts : (o : ℕ) (ks : List Node) → is_branching (P o ks) ≡ true
    → (2 ≤ length ks) × (list_all is_branching ks ≡ true)
branching_P_parts o ks h = let g = and_parts (nat_lt 1 (length ks)) (list_all is_branching ks) (sym (branching_P o ks) ∙ h) in let lt = ltb-true 1 (length ks) g.0 in (omega arith, g.1)

-- a Q-node that branches has two kids or more, which branch
pub branching_Q_parts : (o : ℕ) (ks : List Node) → is_branching (Q o ks) ≡ true
    → (2 ≤ length ks) × (list_all is_branching ks ≡ true)
branching_Q_parts o ks h = let g = and_parts (nat_lt 1 (length ks)) (list_all is_branching ks) (sym (branching_Q o ks) ∙ h) in let lt = ltb-true 1 (length ks) g.0 in (omega arith, g.1)

-- a P-node over two kids or more that branch does
pub branching_P_from : (o : ℕ) (ks : List Node) → 2 ≤ length ks → list_all is_branching ks ≡ true
    → is_branching (P o ks) ≡ true
branching_P_from o ks two h = branching_P o ks ∙ and_from (nat_lt 1 (length ks)) (list_all is_branching ks) (lt-ltb 1 (length ks) (omega arith)) h

-- and so does a Q-node
pub branching_Q_from : (o : ℕ) (ks : List Node) → 2 ≤ length ks → list_all is_branching ks ≡ true
    → is_branching (Q o ks) ≡ true
branching_Q_from o ks two h = branching_Q o ks ∙ and_from (nat_lt 1 (length ks)) (list_all is_branching ks) (lt-ltb 1 (length ks) (omega arith)) h

-- a test of all nodes of a row holds at a place
pub all_at : (f : Node → Bool) (ks : List Node) (i : ℕ) (d : Node) → i < length ks → list_all f ks ≡ true
    → f (get_or ks i d) ≡ true
all_at f [] i d lt h = absurd (omega arith)
all_at f (k ∷ ks) zero d lt h = (and_parts _ _ h).0
all_at f (k ∷ ks) (suc i) d lt h = all_at f ks i d (omega arith) (and_parts _ _ h).1

-- a leaf passes a test where its number does
pub has_all_Leaf : (p : ℕ → Bool) (x : ℕ) → has_all p (Leaf x) ≡ p x
unfolding has_all
has_all_Leaf p x = ap (list_all p) (leaves_Leaf x) ∙ and_true (p x)
