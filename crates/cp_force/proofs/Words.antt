-- What bits read, layer by layer, is a reading.
use Rattle.std.proofs.Common.{◌≡◌, ℕ, ◌+◌, ◌-◌, ◌<◌, Bool, true, false, cond, List, [], ◌∷◌, ◌++◌, map, length, take, get_or, flat_map, refl, sym, ap, ◌∙◌, subst}
use Rattle.std.specs.Prelude.{nat_lt}
use Rattle.std.specs.Bool.{beq}
use Rattle.std.specs.List.{list_all, AllByRecursion}
use Rattle.std.proofs.lemmas.Bool.{and_parts, and_from}
use Rattle.std.proofs.lemmas.List.{take_more, append-nil, length-reverse, get_or-reverse}
use Rattle.std.proofs.lemmas.List.Concat.{flat_map-append}
use Rattle.std.proofs.lemmas.List.Sorted.{IsPermutation-refl}
use Rattle.cp_pq.specs.declared.node.Node.{Node}
use Rattle.cp_pq.specs.declared.node.Node.TheOpen.{Node-F}
use Rattle.cp_pq.specs.declared.node.Node.TheFolds.{fold-roll-Node}
use Rattle.cp_pq.specs.declared.node.Node.TheVariants.{Leaf, P, Q, rolls-Leaf, rolls-P, rolls-Q}
use Rattle.cp_pq.specs.Bits.{bit_of}
use Rattle.cp_pq.specs.Nodes.{has_vars_below}
use Rattle.cp_pq.specs.Readings.{Reads, ReadsAll, leaf, any_order, forward, backward, none, more, given}
use Rattle.cp_force.specs.Words.{word_by, words_by, word_step}
use Rattle.cp_pq.specs.Promises.{in_direction}
use Rattle.cp_pq.proofs.NodeLayers.{flat_map_map}
use Rattle.cp_force.proofs.NodeLayers.{node_induction, map-reverse}
use Rattle.cp_pq.proofs.NodeTests.{below_P, below_Q}
use Rattle.cp_lists.proofs.EachItem.{all-reverse}

-- the images of a turned row
map-turned : (f : Node → List ℕ) (turned : Bool) (row : List Node)
    → in_direction turned (map f row) ≡ map f (in_direction turned row)
map-turned f true row = sym (map-reverse f row)
map-turned f false row = refl

-- the word of a leaf
pub word_by-Leaf : (bits : List Bool) (x : ℕ) → word_by bits (Leaf x) ≡ x ∷ []
unfolding word_by
word_by-Leaf bits x = ap (word_by bits) (sym (rolls-Leaf x)) ∙ fold-roll-Node (List ℕ) (word_step bits) (Node-F.Leaf x)

-- the word of a P-node
pub word_by-P : (bits : List Bool) (owner : ℕ) (kids : List Node) → word_by bits (P owner kids) ≡ words_by bits kids
unfolding word_by words_by
word_by-P bits owner kids =
    ap (word_by bits) (sym (rolls-P owner kids)) ∙ fold-roll-Node (List ℕ) (word_step bits) (Node-F.P owner kids)
    ∙ flat_map_map (word_by bits) kids

-- the word of a Q-node
pub word_by-Q : (bits : List Bool) (var : ℕ) (kids : List Node)
    → word_by bits (Q var kids) ≡ words_by bits (in_direction (bit_of bits var) kids)
unfolding word_by words_by
word_by-Q bits var kids =
    ap (word_by bits) (sym (rolls-Q var kids)) ∙ fold-roll-Node (List ℕ) (word_step bits) (Node-F.Q var kids)
    ∙ ap (λ rows. flat_map (λ (row : List ℕ). row) rows) (map-turned (word_by bits) (bit_of bits var) kids)
    ∙ flat_map_map (word_by bits) (in_direction (bit_of bits var) kids)

-- the word of a row with one node more
pub words_by-more : (bits : List Bool) (row : List Node) (i : ℕ) (d : Node) → i < length row
    → words_by bits (take (i + 1) row) ≡ words_by bits (take i row) ++ word_by bits (get_or row i d)
unfolding words_by
words_by-more bits row i d lt =
    ap (flat_map (word_by bits)) (take_more row i d lt) ∙ flat_map-append (word_by bits) (take i row)
    (get_or row i d ∷ [])
    ∙ ap (λ xs. flat_map (word_by bits) (take i row) ++ xs) (append-nil (word_by bits (get_or row i d)))

-- no node has no word
pub words_by-none : (bits : List Bool) → words_by bits [] ≡ []
unfolding words_by
words_by-none bits = refl

-- where the bits read each node of a row, they read the row
pub ReadsAll-words : (bits : List Bool) (may : ℕ → Bool → Bool) (row : List Node)
    → AllByRecursion (λ n. Reads may n (word_by bits n)) row → ReadsAll may row (words_by bits row)
unfolding words_by
ReadsAll-words bits may [] all = none
ReadsAll-words bits may (k ∷ ks) all = more k ks (word_by bits k) (words_by bits ks) all.0
    (ReadsAll-words bits may ks all.1)

-- what a test gives of all nodes of a row
all_given : (test : Node → Bool) (M : Node → Type 0) (row : List Node)
    → AllByRecursion (λ n. test n ≡ true → M n) row → list_all test row ≡ true → AllByRecursion M row
all_given test M [] all passed = tt
all_given test M (k ∷ ks) all passed =
    let parts = and_parts (test k) (list_all test ks) passed in
    (all.0 parts.0, all_given test M ks all.1 parts.1)

-- a bit is itself
beq-same : (b : Bool) → beq b b ≡ true
beq-same true = refl
beq-same false = refl

-- the bits license the bit of a var in range
pub given_bit : (bits : List Bool) (v : ℕ) → nat_lt v (length bits) ≡ true → given bits v (bit_of bits v) ≡ true
given_bit bits v lt = and_from (nat_lt v (length bits)) (beq (bit_of bits v) (bit_of bits v)) lt
    (beq-same (bit_of bits v))

-- a Q-node is read in the direction of its bit
pub Reads-turned : (may : ℕ → Bool → Bool) (var : ℕ) (kids : List Node) (b : Bool) (xs : List ℕ)
    → may var b ≡ true → ReadsAll may (in_direction b kids) xs → Reads may (Q var kids) xs
Reads-turned may var kids true xs may_be all = backward var kids xs may_be all
Reads-turned may var kids false xs may_be all = forward var kids xs may_be all

-- what holds of a row holds of it turned
pub all-turned : (M : Node → Type 0) (b : Bool) (row : List Node) → AllByRecursion M row
    → AllByRecursion M (in_direction b row)
all-turned M true row all = all-reverse M row all
all-turned M false row all = all

-- where each var has a bit, the word by the bits is a reading by them
pub Reads-word : (bits : List Bool) (n : Node) → has_vars_below (length bits) n ≡ true
    → Reads (given bits) n (word_by bits n)
Reads-word bits = node_induction (λ n. has_vars_below (length bits) n ≡ true → Reads (given bits) n (word_by bits n))
    (λ x below. subst (Reads (given bits) (Leaf x)) (sym (word_by-Leaf bits x)) (leaf x))
    (λ owner kids all below.
    subst (Reads (given bits) (P owner kids)) (sym (word_by-P bits owner kids))
    (any_order owner kids kids (words_by bits kids) (IsPermutation-refl kids)
    (ReadsAll-words bits (given bits) kids
    (all_given (has_vars_below (length bits)) (λ n. Reads (given bits) n (word_by bits n)) kids all
    (sym (below_P (length bits) owner kids) ∙ below)))))
    (λ var kids all below.
    let parts = and_parts (nat_lt var (length bits)) (list_all (has_vars_below (length bits)) kids)
    (sym (below_Q (length bits) var kids) ∙ below) in
    subst (Reads (given bits) (Q var kids)) (sym (word_by-Q bits var kids))
    (Reads-turned (given bits) var kids (bit_of bits var) (words_by bits (in_direction (bit_of bits var) kids))
    (given_bit bits var parts.0)
    (ReadsAll-words bits (given bits) (in_direction (bit_of bits var) kids)
    (all-turned (λ n. Reads (given bits) n (word_by bits n)) (bit_of bits var) kids
    (all_given (has_vars_below (length bits)) (λ n. Reads (given bits) n (word_by bits n)) kids all parts.1)))))

-- the node that comes at turn i in a row that is turned or not
pub turned_at : (turned : Bool) (row : List Node) (i : ℕ) (d : Node) → i < length row
    → get_or (in_direction turned row) i d ≡ get_or row (cond turned (length row - 1 - i) i) d
turned_at true row i d lt = get_or-reverse row i d lt
turned_at false row i d lt = refl

-- a turned row is as long
pub length-turned : (turned : Bool) (row : List Node) → length (in_direction turned row) ≡ length row
length-turned true row = length-reverse row
length-turned false row = refl
