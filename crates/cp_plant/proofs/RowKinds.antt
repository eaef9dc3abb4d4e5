-- The vertices and pipes that stand for rows in the order of the rows: those of P-nodes and of Q-nodes apart.
use Rattle.std.proofs.Common.{◌≡◌, ℕ, suc, ◌+◌, Bool, true, false, List, [], ◌∷◌, ◌++◌, length, map, slice_index, sym, refl, ap, ap₂, ◌∙◌, subst, ⊎_elim, arith, IsPermutation}
use Rattle.std.specs.List.{AllZip, flat_map, zip}
use Rattle.std.proofs.lemmas.Bool.{cases_Bool}
use Rattle.std.proofs.lemmas.List.Sorted.{IsPermutation-cons, IsPermutation-middle, IsPermutation-refl, IsPermutation-sym, IsPermutation-trans}
use Rattle.cp_board.specs.declared.parts.Vert.{Vert}
use Rattle.cp_board.specs.Changes.{free_vert}
use Rattle.cp_board.specs.Instances.{cell_of, names_of_verts}
use Rattle.cp_board.specs.Plantings.{Planted, fixed_nodes, free_nodes}
use Rattle.cp_board.specs.Propagations.{fixed_verts, node_pipes}
use Rattle.cp_plantlaw.proofs.PropagatedRows.{row_verts}
use Rattle.cp_plantlaw.proofs.ToldTrees.{HaveOneForm}
use Rattle.cp_plant.specs.Rewriting.{order_of, planted_pipe, planted_pipes, planted_vert, planted_verts}

-- the names from place n on are these
abbrev pub AreBehind : List ℕ → ℕ → List ℕ → Type 0
AreBehind names n rest = (m : ℕ) → slice_index names (n + m) ≡ slice_index rest m

-- all names are those from the first on
pub all_behind : (names : List ℕ) → AreBehind names 0 names
all_behind names m = ap (slice_index names) (same m)
  where
    same : (m : ℕ) → 0 + m ≡ m
    same m = omega arith

-- the first of them
behind_first : (names : List ℕ) (n c : ℕ) (rest : List ℕ) → AreBehind names n (c ∷ rest) → slice_index names n ≡ c
behind_first names n c rest h =
    let here : n + 0 ≡ n = omega arith in ap (slice_index names) (sym here) ∙ h 0

-- and those behind it
behind_rest : (names : List ℕ) (n c : ℕ) (rest : List ℕ) → AreBehind names n (c ∷ rest) → AreBehind names (suc n) rest
behind_rest names n c rest h m = ap (slice_index names) (next m) ∙ h (suc m)
  where
    next : (m : ℕ) → suc n + m ≡ n + suc m
    next m = omega arith

-- the vertices of P-nodes
abbrev pub free_verts : List Planted → List Vert
free_verts rows = map (λ r. free_vert r.vertex) rows

-- the names of the vertices are those of the rows
pub names_of_planted : (m : Bool) (cells : List ℕ) (n : ℕ) (rows : List Planted)
    → names_of_verts (planted_verts m cells n rows) ≡ row_verts rows
names_of_planted m cells n [] = refl
names_of_planted m cells n (r ∷ rows) = ap (λ zs. r.vertex ∷ zs) (names_of_planted m cells _ rows)

-- the same of the rows behind
abbrev VertsAgain : Bool → List ℕ → List Planted → Type 0
VertsAgain m cells rows = (k : ℕ) (more : List ℕ) → AreBehind cells k more → length more ≡ length (fixed_nodes rows)
    → IsPermutation (planted_verts m cells k rows)
    (free_verts (free_nodes rows) ++ fixed_verts (order_of m) more (fixed_nodes rows))

-- the vertices in the order of rows are those of P-nodes and those of Q-nodes
pub planted-permuted : (m : Bool) (cells : List ℕ) (n : ℕ) (rows : List Planted) (rest : List ℕ) → AreBehind cells n rest
    → length rest ≡ length (fixed_nodes rows)
    → IsPermutation (planted_verts m cells n rows)
    (free_verts (free_nodes rows) ++ fixed_verts (order_of m) rest (fixed_nodes rows))
planted-permuted m cells n [] [] behind e = IsPermutation-refl []
planted-permuted m cells n [] (c ∷ rest) behind e = absurd (omega (arith, e))
planted-permuted m cells n (r ∷ rows) rest behind e =
    let again : VertsAgain m cells rows = λ k more. planted-permuted m cells k rows more in
    ⊎_elim (fixed again rest behind e) (free again rest behind e) (cases_Bool r.fixed)
  where
    free : VertsAgain m cells rows → (rest : List ℕ) → AreBehind cells n rest → length rest ≡ length (fixed_nodes (r ∷ rows)) → r.fixed ≡ false
        → IsPermutation (planted_verts m cells n (r ∷ rows))
        (free_verts (free_nodes (r ∷ rows)) ++ fixed_verts (order_of m) rest (fixed_nodes (r ∷ rows)))
    free again rest behind e f =
        let size : length rest ≡ length (fixed_nodes rows) = rw (f) at e in
        rw (f) (IsPermutation-cons (free_vert r.vertex) (planted_verts m cells n rows)
        (free_verts (free_nodes rows) ++ fixed_verts (order_of m) rest (fixed_nodes rows))
        (again n rest behind size))

    fixed : VertsAgain m cells rows → (rest : List ℕ) → AreBehind cells n rest → length rest ≡ length (fixed_nodes (r ∷ rows)) → r.fixed ≡ true
        → IsPermutation (planted_verts m cells n (r ∷ rows))
        (free_verts (free_nodes (r ∷ rows)) ++ fixed_verts (order_of m) rest (fixed_nodes (r ∷ rows)))
    fixed again [] behind e t =
        let size : 0 ≡ suc (length (fixed_nodes rows)) = rw (t) at e in absurd (omega (arith, size))
    fixed again (c ∷ rest) behind e t =
        let size : suc (length rest) ≡ suc (length (fixed_nodes rows)) = rw (t) at e in
        let first : slice_index cells n ≡ c = behind_first cells n c rest behind in
        let fs : List Vert = free_verts (free_nodes rows) in
        let qs : List Vert = fixed_verts (order_of m) rest (fixed_nodes rows) in
        let head : Vert = planted_vert m c r in
        let more : IsPermutation (head ∷ planted_verts m cells (suc n) rows) (fs ++ head ∷ qs) =
        IsPermutation-trans (head ∷ planted_verts m cells (suc n) rows) (head ∷ (fs ++ qs)) (fs ++ head ∷ qs)
        (IsPermutation-cons head (planted_verts m cells (suc n) rows) (fs ++ qs)
        (again (suc n) rest (behind_rest cells n c rest behind) (omega (arith, size))))
        (IsPermutation-sym (fs ++ head ∷ qs) (head ∷ (fs ++ qs)) (IsPermutation-middle fs head qs)) in
        let all : IsPermutation (planted_vert m (slice_index cells n) r ∷ planted_verts m cells (suc n) rows)
        (fs ++ head ∷ qs) = subst (λ k. IsPermutation (planted_vert m k r ∷ planted_verts m cells (suc n) rows)
        (fs ++ head ∷ qs)) (sym first) more in
        rw (t) (rw (t) at all)

-- the same of the rows behind
abbrev CellsAgain : Bool → List ℕ → List Planted → Type 0
CellsAgain m cells rows = (k : ℕ) (more : List ℕ) → AreBehind cells k more → length more ≡ length (fixed_nodes rows)
    → flat_map (λ v. cell_of v.kind) (planted_verts m cells k rows) ≡ more

-- the cells of the vertices in the order of rows
pub cells_of_planted : (m : Bool) (cells : List ℕ) (n : ℕ) (rows : List Planted) (rest : List ℕ) → AreBehind cells n rest
    → length rest ≡ length (fixed_nodes rows)
    → flat_map (λ v. cell_of v.kind) (planted_verts m cells n rows) ≡ rest
cells_of_planted m cells n [] [] behind e = refl
cells_of_planted m cells n [] (c ∷ rest) behind e = absurd (omega (arith, e))
cells_of_planted m cells n (r ∷ rows) rest behind e =
    let again : CellsAgain m cells rows = λ k more. cells_of_planted m cells k rows more in
    ⊎_elim (fixed again rest behind e) (free again rest behind e) (cases_Bool r.fixed)
  where
    free : CellsAgain m cells rows → (rest : List ℕ) → AreBehind cells n rest → length rest ≡ length (fixed_nodes (r ∷ rows)) → r.fixed ≡ false
        → flat_map (λ v. cell_of v.kind) (planted_verts m cells n (r ∷ rows)) ≡ rest
    free again rest behind e f =
        let size : length rest ≡ length (fixed_nodes rows) = rw (f) at e in
        rw (f) (again n rest behind size)

    fixed : CellsAgain m cells rows → (rest : List ℕ) → AreBehind cells n rest → length rest ≡ length (fixed_nodes (r ∷ rows)) → r.fixed ≡ true
        → flat_map (λ v. cell_of v.kind) (planted_verts m cells n (r ∷ rows)) ≡ rest
    fixed again [] behind e t =
        let size : 0 ≡ suc (length (fixed_nodes rows)) = rw (t) at e in absurd (omega (arith, size))
    fixed again (c ∷ rest) behind e t =
        let size : suc (length rest) ≡ suc (length (fixed_nodes rows)) = rw (t) at e in
        rw (t) (ap₂ (λ z zs. z ∷ zs) (behind_first cells n c rest behind)
        (again (suc n) rest (behind_rest cells n c rest behind) (omega (arith, size))))

-- the same of the rows behind
abbrev PipesAgain : List ℕ → List Planted → List Planted → Type 0
PipesAgain names us ws = (k : ℕ) (more : List ℕ) → AreBehind names k more → length more ≡ length (free_nodes us)
    → planted_pipes names k (zip us ws) ≡ node_pipes more (free_nodes us) (free_nodes ws)

-- the pipes in the order of rows are those of the P-nodes
pub pipes_of_planted : (names : List ℕ) (n : ℕ) (us ws : List Planted) (rest : List ℕ) → AreBehind names n rest
    → length rest ≡ length (free_nodes us) → AllZip HaveOneForm us ws
    → planted_pipes names n (zip us ws) ≡ node_pipes rest (free_nodes us) (free_nodes ws)
pipes_of_planted names n [] [] [] behind e z = refl
pipes_of_planted names n [] [] (c ∷ rest) behind e z = absurd (omega (arith, e))
pipes_of_planted names n [] (b ∷ ws) rest behind e z = absurd z
pipes_of_planted names n (a ∷ us) [] rest behind e z = absurd z
pipes_of_planted names n (a ∷ us) (b ∷ ws) rest behind e z =
    let again : PipesAgain names us ws = λ k more f g. pipes_of_planted names k us ws more f g z.1 in
    ⊎_elim (fixed again rest behind e) (free again rest behind e) (cases_Bool a.fixed)
  where
    fixed : PipesAgain names us ws → (rest : List ℕ) → AreBehind names n rest → length rest ≡ length (free_nodes (a ∷ us)) → a.fixed ≡ true
        → planted_pipes names n (zip (a ∷ us) (b ∷ ws)) ≡ node_pipes rest (free_nodes (a ∷ us)) (free_nodes (b ∷ ws))
    fixed again rest behind e t =
        let other : b.fixed ≡ true = z.0.0 ∙ t in
        let size : length rest ≡ length (free_nodes us) = rw (t) at e in
        rw (t, other) (again n rest behind size)

    free : PipesAgain names us ws → (rest : List ℕ) → AreBehind names n rest → length rest ≡ length (free_nodes (a ∷ us)) → a.fixed ≡ false
        → planted_pipes names n (zip (a ∷ us) (b ∷ ws)) ≡ node_pipes rest (free_nodes (a ∷ us)) (free_nodes (b ∷ ws))
    free again [] behind e f =
        let size : 0 ≡ suc (length (free_nodes us)) = rw (f) at e in absurd (omega (arith, size))
    free again (c ∷ rest) behind e f =
        let other : b.fixed ≡ false = z.0.0 ∙ f in
        let size : suc (length rest) ≡ suc (length (free_nodes us)) = rw (f) at e in
        rw (f, other) (ap₂ (λ k ps. planted_pipe k a b ∷ ps) (behind_first names n c rest behind)
        (again (suc n) rest (behind_rest names n c rest behind) (omega (arith, size))))
