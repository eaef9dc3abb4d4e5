-- A number for the block of each edge, so that to be in one block is a test.
use Rattle.std.proofs.Common.{◌≡◌, ℕ, zero, suc, ◌<◌, ◌⊎◌, ◌↔◌, Bool, true, ◌&&◌, ◌||◌, eqb, List, [], ◌∷◌, ◌++◌, length, get_or, sym, refl, ap, ◌∙◌, subst, inl, inr, ⊎_elim, arith}
use Rattle.std.specs.List.{Contains, filter}
use Rattle.std.proofs.lemmas.Bool.{cases_eq, eq-eqb, eqb-true, and_from, and_parts, or_cases, or_left, or_right}
use Rattle.std.proofs.lemmas.List.Elements.{Contains-append_left, Contains-append_right, Contains-append_cases}
use Rattle.cp_orbits.specs.Classes.{labels}
use Rattle.cp_orbits.specs.Connected.{Joins, Connected, here, step}
use Rattle.cp_orbits.proofs.ClassLabels.{Contains-head, Contains-tail, Contains-cons_cases, connected_labels, labels_connected}
use Rattle.cp_conn.specs.Blocks.{HaveNoLoop, AreInOneBlock}
use Rattle.cp_conn.specs.CutVertex.{without_vertex}
use Rattle.cp_conn.specs.Grouping.{touches, other_end}
use Rattle.cp_conn.proofs.BlockClasses.{block_connected, connected_block}
use Rattle.cp_conn.proofs.CutVertices.{kept_of, kept_pair}
use Rattle.cp_conn.proofs.EdgeEnds.{joins_touch, other_differs, other_joins, touches_of}
use Rattle.cp_conn.proofs.OneBlock.{one_block_at}

-- the pairs of e and each number below n
abbrev pub row : ℕ → ℕ → List (ℕ × ℕ)
row e zero = []
row e (suc n) = (e, n) ∷ row e n

-- the pairs of a number below m and one below n
abbrev pub number_pairs : ℕ → ℕ → List (ℕ × ℕ)
number_pairs zero n = []
number_pairs (suc m) n = row m n ++ number_pairs m n

-- e and f touch v, and their other ends have one label without v
abbrev pub meet_at : List (ℕ × ℕ) → ℕ → ℕ → ℕ → Bool
meet_at es v e f =
    (touches es v e && touches es v f)
    && eqb (labels (without_vertex v es) (other_end es v e)) (labels (without_vertex v es) (other_end es v f))

-- e and f meet at an end of e
abbrev pub meet : List (ℕ × ℕ) → ℕ × ℕ → Bool
meet es p = meet_at es (get_or es p.0 (0, 0)).0 p.0 p.1 || meet_at es (get_or es p.0 (0, 0)).1 p.0 p.1

-- all pairs of edges that meet
abbrev pub meeting_pairs : List (ℕ × ℕ) → List (ℕ × ℕ)
meeting_pairs es = filter (meet es) (number_pairs (length es) (length es))

-- a number for the block of edge e: the least edge that is in one block with it
unfoldable pub block_of : List (ℕ × ℕ) → ℕ → ℕ
block_of es e = labels (meeting_pairs es) e

-- each number below n is paired with e
row_has : (e n f : ℕ) → f < n → Contains (row e n) (e, f)
row_has e zero f lt = absurd (omega arith)
row_has e (suc n) f lt =
    ⊎_elim
    (λ same. subst (λ (k : ℕ). Contains (row e (suc n)) (e, k)) (sym same) (Contains-head (e, n) (row e n)))
    (λ other. Contains-tail (e, n) (e, f) (row e n) (row_has e n f (omega arith)))
    (cases_eq f n)

-- only e is paired, and only with numbers below n
row_only : (e n : ℕ) (p : ℕ × ℕ) → Contains (row e n) p → (p.0 ≡ e) × (p.1 < n)
row_only e zero p c = absurd (omega (arith, c.1))
row_only e (suc n) p c =
    ⊎_elim
    (λ same. (ap (λ (q : ℕ × ℕ). q.0) (sym same), omega (arith, ap (λ (q : ℕ × ℕ). q.1) same)))
    (λ k. let h : (p.0 ≡ e) × (p.1 < n) = row_only e n p k in (h.0, omega (arith, h.1)))
    (Contains-cons_cases (e, n) p (row e n) c)

-- a number below m and one below n are one of the pairs
pairs_have : (m n e f : ℕ) → e < m → f < n → Contains (number_pairs m n) (e, f)
pairs_have zero n e f lte ltf = absurd (omega arith)
pairs_have (suc m) n e f lte ltf =
    ⊎_elim
    (λ same. Contains-append_left (row m n) (number_pairs m n) (e, f)
    (subst (λ (k : ℕ). Contains (row m n) (k, f)) (sym same) (row_has m n f ltf)))
    (λ other. Contains-append_right (row m n) (number_pairs m n) (e, f) (pairs_have m n e f (omega arith) ltf))
    (cases_eq e m)

-- only pairs of such numbers are there
pairs_only : (m n : ℕ) (p : ℕ × ℕ) → Contains (number_pairs m n) p → (p.0 < m) × (p.1 < n)
pairs_only zero n p c = absurd (omega (arith, c.1))
pairs_only (suc m) n p c =
    ⊎_elim
    (λ k. let h : (p.0 ≡ m) × (p.1 < n) = row_only m n p k in (omega (arith, h.0), h.1))
    (λ k. let h : (p.0 < m) × (p.1 < n) = pairs_only m n p k in (omega (arith, h.0), h.1))
    (Contains-append_cases (row m n) (number_pairs m n) p c)

module _ (es : List (ℕ × ℕ)) (none : HaveNoLoop es) where
  -- edges that meet at v are in one block
  meet_at-block : (v e f : ℕ) → e < length es → f < length es → meet_at es v e f ≡ true → AreInOneBlock es e f
  meet_at-block v e f lte ltf t =
      let h = and_parts (touches es v e && touches es v f) _ t in
      let k = and_parts (touches es v e) (touches es v f) h.0 in
      (one_block_at es v e f (other_end es v e) (other_end es v f) lte ltf
      (other_joins es v e k.0) (other_joins es v f k.1)
      (other_differs es v e none lte k.0) (other_differs es v f none ltf k.1)).1
      (eqb-true
      (labels (without_vertex v es) (other_end es v e))
      (labels (without_vertex v es) (other_end es v f)) h.1)

  -- edges of one block meet at each vertex that they share
  block-meet_at : (v e f x y : ℕ) → e < length es → f < length es → Joins (get_or es e (0, 0)) v x
      → Joins (get_or es f (0, 0)) v y → AreInOneBlock es e f → meet_at es v e f ≡ true
  block-meet_at v e f x y lte ltf je jf b =
      let te : touches es v e ≡ true = touches_of es v e (joins_touch es v x e je) in
      let tf : touches es v f ≡ true = touches_of es v f (joins_touch es v y f jf) in
      and_from (touches es v e && touches es v f) _
      (and_from (touches es v e) (touches es v f) te tf)
      (eq-eqb
      (labels (without_vertex v es) (other_end es v e))
      (labels (without_vertex v es) (other_end es v f))
      ((one_block_at es v e f (other_end es v e) (other_end es v f) lte ltf
      (other_joins es v e te) (other_joins es v f tf)
      (other_differs es v e none lte te) (other_differs es v f none ltf tf)).0 b))

  -- meeting edges are in one block
  meeting-block : (p : ℕ × ℕ) → Contains (meeting_pairs es) p → AreInOneBlock es p.0 p.1
  meeting-block p c =
      let h = kept_pair (meet es) (number_pairs (length es) (length es)) p c in
      let lt : (p.0 < length es) × (p.1 < length es) = pairs_only (length es) (length es) p h.0 in
      ⊎_elim
      (λ t. meet_at-block (get_or es p.0 (0, 0)).0 p.0 p.1 lt.0 lt.1 t)
      (λ t. meet_at-block (get_or es p.0 (0, 0)).1 p.0 p.1 lt.0 lt.1 t)
      (or_cases
      (meet_at es (get_or es p.0 (0, 0)).0 p.0 p.1)
      (meet_at es (get_or es p.0 (0, 0)).1 p.0 p.1) h.1)

  -- edges of one block that share a vertex are connected by meeting pairs
  block-meeting : (e f v x y : ℕ) → e < length es → f < length es → Joins (get_or es e (0, 0)) v x
      → Joins (get_or es f (0, 0)) v y → AreInOneBlock es e f → Connected (meeting_pairs es) e f
  block-meeting e f v x y lte ltf je jf b =
      let met : meet_at es v e f ≡ true = block-meet_at v e f x y lte ltf je jf b in
      let passes : meet es (e, f) ≡ true =
      ⊎_elim
      (λ h. or_left (meet_at es (get_or es e (0, 0)).0 e f) (meet_at es (get_or es e (0, 0)).1 e f)
      (ap (λ (u : ℕ). meet_at es u e f) h.0 ∙ met))
      (λ h. or_right (meet_at es (get_or es e (0, 0)).0 e f) (meet_at es (get_or es e (0, 0)).1 e f)
      (ap (λ (u : ℕ). meet_at es u e f) h.1 ∙ met))
      je in
      step here (e, f)
      (kept_of (meet es) (number_pairs (length es) (length es)) (e, f)
      (pairs_have (length es) (length es) e f lte ltf) passes)
      (inl (refl, refl))

  -- edges have one number exactly where they are in one block
  pub same_block_of : (e f : ℕ) → (block_of es e ≡ block_of es f) ↔ AreInOneBlock es e f
  unfolding block_of
  same_block_of e f = (
    λ same. block_connected es (meeting_pairs es) e f none meeting-block
        (connected_labels (meeting_pairs es) e f same),
    λ b. labels_connected (meeting_pairs es) e f (connected_block es (meeting_pairs es) e f block-meeting b),
  )

  -- two edges are in one block or not
  pub block_cases : (e f : ℕ) → AreInOneBlock es e f ⊎ (AreInOneBlock es e f → ⊥)
  block_cases e f =
      ⊎_elim
      (λ same. inl ((same_block_of e f).0 same))
      (λ other. inr (λ b. other ((same_block_of e f).1 b)))
      (cases_eq (block_of es e) (block_of es f))
