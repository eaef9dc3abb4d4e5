-- Propagate forwards: where the shape admits the list of the end, lists that solve the instance give lists that solve
-- what Propagate makes of it.
use Rattle.std.proofs.Common.{◌≡◌, ℕ, suc, Bool, true, false, eqb, List, [], ◌∷◌, length, map, reverse, sym, refl, ap, ap₂, ◌∙◌, subst, ⊎_elim, arith}
use Rattle.std.specs.Prelude.{Some, find}
use Rattle.std.specs.List.{All, AllByRecursion, AllZip, Contains}
use Rattle.std.specs.Option.{option_map_or}
use Rattle.std.proofs.lemmas.List.{reverse-reverse}
use Rattle.std.proofs.lemmas.List.Elements.{All-contains, All-cons, All-from_recursion, All-nil, recursion_from_All}
use Rattle.std.proofs.lemmas.List.Sorted.{All-permutation}
use Rattle.cp_lists.specs.CyclicLists.{Distinct, Lacks}
use Rattle.cp_lists.specs.Turns.{IsTurn, turned_to_least}
use Rattle.cp_lists.proofs.LeastItems.{turned_to_least-IsTurn}
use Rattle.cp_lists.proofs.TurnedLists.{turn-map, turn-reverse, turn-sym, turn-trans}
use Rattle.cp_board.specs.declared.parts.Vert.{Vert}
use Rattle.cp_board.specs.Plantings.{Planted}
use Rattle.cp_board.specs.Propagations.{fixed_verts}
use Rattle.cp_board.specs.Solutions.{IsInDirection, IsMirror, directed, second_of}
use Rattle.cp_board.specs.Steps.{partner}
use Rattle.cp_plantlaw.specs.NamedTrees.{PairedRow}
use Rattle.cp_plantlaw.proofs.EndPartners.{found_own}
use Rattle.cp_plantlaw.proofs.FreshNames.{All-from_items, find-none}
use Rattle.cp_plantlaw.proofs.LaidTrees.{AreLaid, IsLaid}
use Rattle.cp_plantlaw.proofs.PermutedRows.{map-reverse}
use Rattle.cp_plantlaw.proofs.PropagatedTrees.{Holds, turn_back}
use Rattle.cp_plantlaw.proofs.RowOrders.{mate_of_row, seconds_by}
use Rattle.cp_plantlaw.proofs.RowPairs.{node_pipe, node_vert}

-- what holds of the parts of each row that is laid, at the two rows below
pub zip-laid : (partner : ℕ → ℕ) (X : PairedRow → Type 0) (S : Planted → Planted → Type 0)
    → ((a b : Planted) (r : PairedRow) → IsLaid partner a b r → X r → S a b)
    → (hs bs : List Planted) (rs : List PairedRow) → AreLaid partner hs bs rs → AllByRecursion X rs → AllZip S hs bs
zip-laid partner X S h [] [] [] l x = tt
zip-laid partner X S h [] [] (r ∷ rs) l x = absurd l
zip-laid partner X S h [] (b ∷ bs) rs l x = absurd l
zip-laid partner X S h (a ∷ hs) [] rs l x = absurd l
zip-laid partner X S h (a ∷ hs) (b ∷ bs) [] l x = absurd l
zip-laid partner X S h (a ∷ hs) (b ∷ bs) (r ∷ rs) l x =
    (h a b r l.0 x.0, zip-laid partner X S h hs bs rs l.1 x.1)

-- a property of all items of a list, by the items
pub all-by_items : {A : Type 0} (X : A → Type 0) (xs : List A) → ((x : A) → Contains xs x → X x) → AllByRecursion X xs
all-by_items X xs h = recursion_from_All X xs (All-from_items X xs h)

-- lists with names, and other lists for all other names
module _ (rows : List (ℕ × List ℕ)) (once : Distinct (map (λ r. r.0) rows)) (s : ℕ → List ℕ) where
  -- the list of a name
  abbrev pub listed : ℕ → List ℕ
  listed x = option_map_or (λ (r : ℕ × List ℕ). r.1) (find (λ (r : ℕ × List ℕ). eqb r.0 x) rows) (s x)

  -- each row is found
  pub listed_row : (r : ℕ × List ℕ) → Contains rows r → listed r.0 ≡ r.1
  listed_row r c =
      ap (λ o. option_map_or (λ (x : ℕ × List ℕ). x.1) o (s r.0))
      (All-contains (λ (x : ℕ × List ℕ). find (λ (y : ℕ × List ℕ). eqb y.0 x.0) rows ≡ Some x) rows r
      (found_own (λ (x : ℕ × List ℕ). x.0) rows once) c)

  -- and other names have the other lists
  pub listed_other : (x : ℕ) → Lacks x (map (λ r. r.0) rows) → listed x ≡ s x
  listed_other x l =
      ap (λ o. option_map_or (λ (y : ℕ × List ℕ). y.1) o (s x)) (find-none (λ (y : ℕ × List ℕ). y.0) x rows l)

-- directions of cells, and other directions for all other cells
module _ (bits : List (ℕ × Bool)) (once : Distinct (map (λ b. b.0) bits)) (other : ℕ → Bool) where
  -- the direction of a cell
  abbrev pub direction : ℕ → Bool
  direction c = option_map_or (λ (b : ℕ × Bool). b.1) (find (λ (b : ℕ × Bool). eqb b.0 c) bits) (other c)

  -- each cell is found
  pub direction_bit : (b : ℕ × Bool) → Contains bits b → direction b.0 ≡ b.1
  direction_bit b c =
      ap (λ o. option_map_or (λ (x : ℕ × Bool). x.1) o (other b.0))
      (All-contains (λ (x : ℕ × Bool). find (λ (y : ℕ × Bool). eqb y.0 x.0) bits ≡ Some x) bits b
      (found_own (λ (x : ℕ × Bool). x.0) bits once) c)

  -- and other cells have the other directions
  pub direction_other : (c : ℕ) → Lacks c (map (λ b. b.0) bits) → direction c ≡ other c
  direction_other c l =
      ap (λ o. option_map_or (λ (x : ℕ × Bool). x.1) o (other c)) (find-none (λ (x : ℕ × Bool). x.0) c bits l)

-- two Q-nodes whose lists are in one direction
abbrev pub IsDirected : (ℕ → List ℕ) → Planted → Planted → Bool → Type 0
IsDirected t a b bit = IsTurn (directed bit (turned_to_least a.edges)) (t a.vertex)
    × IsTurn (directed bit (turned_to_least (reverse b.edges))) (t b.vertex)

-- the directions of all cells, from those of the Q-nodes
abbrev pub bits_of : (t : ℕ → List ℕ) (cs : List ℕ) (hs bs : List Planted) → AllZip
    (λ a b. (bit : Bool) × IsDirected t a b bit) hs bs
    → List (ℕ × Bool)
bits_of t [] hs bs z = []
bits_of t (c ∷ cs) [] bs z = []
bits_of t (c ∷ cs) (a ∷ hs) [] z = []
bits_of t (c ∷ cs) (a ∷ hs) (b ∷ bs) z = (c, z.0.0) ∷ bits_of t cs hs bs z.1

-- they are directions of these cells
pub bits_cells : (t : ℕ → List ℕ) (cs : List ℕ) (hs bs : List Planted)
    → (z : AllZip (λ a b. (bit : Bool) × IsDirected t a b bit) hs bs) → length cs ≡ length hs
    → map (λ b. b.0) (bits_of t cs hs bs z) ≡ cs
bits_cells t [] hs bs z e = refl
bits_cells t (c ∷ cs) [] bs z e = absurd (omega (arith, e))
bits_cells t (c ∷ cs) (a ∷ hs) [] z e = absurd z
bits_cells t (c ∷ cs) (a ∷ hs) (b ∷ bs) z e = ap (λ zs. c ∷ zs) (bits_cells t cs hs bs z.1 (omega (arith, e)))

-- with these directions the Q-vertices of both trees are right
pub bits_verts : (t : ℕ → List ℕ) (back : ℕ → Bool) (cs : List ℕ) (hs bs : List Planted)
    → (z : AllZip (λ a b. (bit : Bool) × IsDirected t a b bit) hs bs)
    → ((b : ℕ × Bool) → Contains (bits_of t cs hs bs z) b → back b.0 ≡ b.1)
    → All (λ v. IsInDirection back (t v.name) v.kind) (fixed_verts (λ es. es) cs hs)
    × All (λ v. IsInDirection back (t v.name) v.kind) (fixed_verts reverse cs bs)
bits_verts t back [] hs bs z found = (
  All-nil (λ (v : Vert). IsInDirection back (t v.name) v.kind),
  All-nil
      (λ (v : Vert). IsInDirection back (t v.name) v.kind),
)
bits_verts t back (c ∷ cs) [] [] z found = (
  All-nil (λ (v : Vert). IsInDirection back (t v.name) v.kind),
  All-nil
      (λ (v : Vert). IsInDirection back (t v.name) v.kind),
)
bits_verts t back (c ∷ cs) [] (b ∷ bs) z found = absurd z
bits_verts t back (c ∷ cs) (a ∷ hs) [] z found = absurd z
bits_verts t back (c ∷ cs) (a ∷ hs) (b ∷ bs) z found =
    let ok : Vert → Type 0 = λ (v : Vert). IsInDirection back (t v.name) v.kind in
    let same : back c ≡ z.0.0 = found (c, z.0.0) (0, omega arith, refl) in
    let rest = bits_verts t back cs hs bs z.1 (λ x k. found x (suc k.0, omega (arith, k.1), k.2)) in (
      All-cons ok (node_vert (λ es. es) c a) (fixed_verts (λ es. es) cs hs)
          (subst (λ d. IsTurn (directed d (turned_to_least a.edges)) (t a.vertex)) (sym same) z.0.1.0) rest.0,
      All-cons ok (node_vert reverse c b) (fixed_verts reverse cs bs)
          (subst (λ d. IsTurn (directed d (turned_to_least (reverse b.edges))) (t b.vertex)) (sym same) z.0.1.1) rest.1,
    )

-- lists that are in a direction
directed_back : (bit : Bool) (es ts : List ℕ) → IsTurn (directed bit es) ts
    → IsTurn (directed bit (turned_to_least es)) ts
directed_back true es ts turn =
    turn-trans (reverse (turned_to_least es)) (reverse es) ts
    (turn-sym (reverse es) (reverse (turned_to_least es))
    (turn-reverse es (turned_to_least es) (turned_to_least-IsTurn es))) turn
directed_back false es ts turn =
    turn-trans (turned_to_least es) es ts (turn-sym es (turned_to_least es) (turned_to_least-IsTurn es)) turn

-- a row that is laid on two Q-nodes, with its lists
module _ (partner : ℕ → ℕ) (t : ℕ → List ℕ) (a b : Planted) (r : PairedRow) (laid : IsLaid partner a b r)
    (holds : Holds t r)
  where
    -- the lists of the two vertices
    abbrev xs : List ℕ
    xs = map (λ k. k.0) laid.kids

    -- the list of the second vertex, without its edge from above
    abbrev ys : List ℕ
    ys = map (λ k. k.1) laid.kids

    -- the list of the first vertex
    at_first : IsTurn (laid.top.0 ∷ map (λ k. k.0) laid.order) (t a.vertex)
    at_first = subst (λ (z : PairedRow). IsTurn z.edges (t z.vertex.0)) laid.same_row holds.0

    -- the list of the second vertex
    at_second : IsTurn (laid.top.1 ∷ reverse (map (λ k. k.1) laid.order)) (t b.vertex)
    at_second = subst (λ (z : PairedRow). IsTurn z.others (t z.vertex.1)) laid.same_row holds.1

    -- two Q-nodes have one direction
    pub laid-IsDirected : a.fixed ≡ true → (bit : Bool) × IsDirected t a b bit
    laid-IsDirected fixed = ⊎_elim
        (λ same. (
          false,
          (
            directed_back false a.edges (t a.vertex)
                (subst (λ ws. IsTurn ws (t a.vertex)) (sym laid.edges_a)
                (subst (λ ws. IsTurn (laid.top.0 ∷ map (λ k. k.0) ws) (t a.vertex)) same at_first)),
            directed_back false (reverse b.edges) (t b.vertex)
                (subst (λ ws. IsTurn (reverse ws) (t b.vertex)) (sym laid.edges_b)
                (turn-trans (reverse (laid.top.1 ∷ ys)) (laid.top.1 ∷ reverse ys) (t b.vertex) (turn_back laid.top.1 ys)
                (subst (λ ws. IsTurn (laid.top.1 ∷ reverse (map (λ k. k.1) ws)) (t b.vertex)) same at_second))),
          ),
        ))
        (λ same. (
          true,
          (
            directed_back true a.edges (t a.vertex)
                (subst (λ ws. IsTurn (reverse ws) (t a.vertex)) (sym laid.edges_a)
                (turn-trans (reverse (laid.top.0 ∷ xs)) (laid.top.0 ∷ reverse xs) (t a.vertex) (turn_back laid.top.0 xs)
                (subst (λ ws. IsTurn (laid.top.0 ∷ ws) (t a.vertex))
                (ap (map (λ (k : ℕ × ℕ). k.0)) same ∙ map-reverse (λ (k : ℕ × ℕ). k.0) laid.kids)
                at_first))),
            directed_back true (reverse b.edges) (t b.vertex)
                (subst (λ ws. IsTurn ws (t b.vertex)) (sym (reverse-reverse b.edges ∙ laid.edges_b))
                (subst (λ ws. IsTurn (laid.top.1 ∷ ws) (t b.vertex))
                (ap reverse (ap (map (λ (k : ℕ × ℕ). k.1)) same ∙ map-reverse (λ (k : ℕ × ℕ). k.1) laid.kids)
                ∙ reverse-reverse ys) at_second)),
          ),
        ))
        (laid.allowed.kept fixed)

    -- two P-nodes mirror each other over their pipe
    pub laid-IsMirror : (n : ℕ) → Distinct a.edges → IsMirror (second_of (node_pipe n a b)) (t a.vertex) (t b.vertex)
    laid-IsMirror n once =
        let star : ℕ → ℕ = second_of (node_pipe n a b) in
        let mates = mate_of_row n a b laid.top laid.kids once laid.edges_a laid.edges_b in
        let kids = recursion_from_All (λ (k : ℕ × ℕ). star k.0 ≡ k.1) laid.order
        (All-permutation (λ (k : ℕ × ℕ). star k.0 ≡ k.1) laid.kids laid.order laid.allowed.permuted
        (All-from_recursion (λ (k : ℕ × ℕ). star k.0 ≡ k.1) laid.kids mates.1)) in
        let us : List ℕ = laid.top.0 ∷ map (λ k. k.0) laid.order in
        let image : map star us ≡ laid.top.1 ∷ map (λ k. k.1) laid.order =
        ap₂ (λ (x : ℕ) zs. x ∷ zs) mates.0 (seconds_by star laid.order kids) in
        turn-trans (reverse (map star (t a.vertex))) (reverse (laid.top.1 ∷ map (λ k. k.1) laid.order)) (t b.vertex)
        (subst (λ ws. IsTurn (reverse (map star (t a.vertex))) (reverse ws)) image
        (turn-reverse (map star (t a.vertex)) (map star us) (turn-map star (t a.vertex) us
        (turn-sym us (t a.vertex) at_first))))
        (turn-trans (reverse (laid.top.1 ∷ map (λ k. k.1) laid.order))
        (laid.top.1 ∷ reverse (map (λ k. k.1) laid.order)) (t b.vertex)
        (turn_back laid.top.1 (map (λ k. k.1) laid.order)) at_second)
