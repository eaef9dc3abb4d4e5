-- To be in one block is an equivalence, and edges that share a vertex tell it.
use Rattle.std.proofs.Common.{◌≡◌, ℕ, zero, suc, ◌+◌, ◌-◌, ◌/◌, ◌<◌, ◌≤◌, List, length, get_or, sym, refl, ap, ◌∙◌, subst, inl, inr, ⊎_elim, arith}
use Rattle.std.specs.List.{Contains}
use Rattle.std.proofs.lemmas.Bool.{cases_eq, cases_lt}
use Rattle.cp_orbits.specs.Connected.{Joins, Connected, here, step}
use Rattle.cp_orbits.proofs.ClassLabels.{Connected-trans}
use Rattle.cp_conn.specs.Darts.{start, finish}
use Rattle.cp_conn.specs.Blocks.{HaveNoLoop, IsSimpleCycle, HasEdge, AreInOneBlock}
use Rattle.cp_conn.proofs.DartChains.{dart_joins, Joins-sym}
use Rattle.cp_conn.proofs.EdgeEnds.{ends_differ}
use Rattle.cp_conn.proofs.OneBlock.{one_block_at}
use Rattle.cp_conn.proofs.BlockSteps.{block_step}

-- in one block with f, and so with an edge of its block that shares a vertex with it
through : (es : List (ℕ × ℕ)) (e f g v x y : ℕ) → HaveNoLoop es → f < length es → g < length es
    → Joins (get_or es f (0, 0)) v x → Joins (get_or es g (0, 0)) v y → AreInOneBlock es f g → AreInOneBlock es e f
    → AreInOneBlock es e g
through es e f g v x y none ltf ltg jf jg fg ef =
    let nex : x ≡ v → ⊥ = ends_differ es f v x none ltf jf in
    let ney : y ≡ v → ⊥ = ends_differ es g v y none ltg jg in
    block_step es v e f g x y ltf ltg jf jg nex ney ef ((one_block_at es v f g x y ltf ltg jf jg nex ney).0 fg)

-- what each step carries on holds at the end
carry : (P : ℕ → Type 0) (lo hi : ℕ) → lo ≤ hi → ((j : ℕ) → lo ≤ j → j < hi → P j → P (suc j)) → P lo → P hi
carry P lo zero le steps p = let e : lo ≡ 0 = omega arith in subst P e p
carry P lo (suc hi) le steps p =
    ⊎_elim
    (λ e. subst P e p)
    (λ ne. steps hi (omega arith) (omega arith) (carry P lo hi (omega arith) (λ j l lt. steps j l (omega arith)) p))
    (cases_eq lo (suc hi))

-- what goes from each edge of a simple cycle to the next, which shares a vertex with it, holds for all its edges
pub carry_cycle : (es : List (ℕ × ℕ)) (P : ℕ → Type 0) (ds : List ℕ) (i j : ℕ) → IsSimpleCycle es ds → i < length ds
    → j < length ds
    → ((f g v x y : ℕ) → f < length es → g < length es → Joins (get_or es f (0, 0)) v x → Joins (get_or es g (0, 0)) v y
    → HasEdge ds f → HasEdge ds g → P f → P g) → P (get_or ds i 0 / 2) → P (get_or ds j 0 / 2)
carry_cycle es P ds i j cy lti ltj next p =
    ⊎_elim
    (λ lt. carry Q i j (omega arith) (λ k l ltk. steps k (omega arith)) p)
    (λ ge. carry Q 0 j (omega arith) (λ k l ltk. steps k (omega arith))
    (wrap (carry Q i (length ds - 1) (omega arith) (λ k l ltk. steps k (omega arith)) p)))
    (cases_lt i j)
  where
    -- the fact holds for the edge of dart k
    Q : ℕ → Type 0
    Q k = P (get_or ds k 0 / 2)

    -- it goes on from a dart to one that starts where that ends
    go : (k m : ℕ) → k < length ds → m < length ds → finish es (get_or ds k 0) ≡ start es (get_or ds m 0) → Q k → Q m
    go k m ltk ltm e q =
        next (get_or ds k 0 / 2) (get_or ds m 0 / 2) (start es (get_or ds m 0)) (start es (get_or ds k 0))
        (finish es (get_or ds m 0))
        (omega (arith, cy.within k ltk)) (omega (arith, cy.within m ltm))
        (subst (λ (z : ℕ). Joins (get_or es (get_or ds k 0 / 2) (0, 0)) z (start es (get_or ds k 0))) e
        (Joins-sym (get_or es (get_or ds k 0 / 2) (0, 0)) (start es (get_or ds k 0)) (finish es (get_or ds k 0))
        (dart_joins es (get_or ds k 0) (cy.within k ltk))))
        (dart_joins es (get_or ds m 0) (cy.within m ltm)) (k, ltk, refl) (m, ltm, refl) q

    -- it goes on to the next dart
    steps : (k : ℕ) → suc k < length ds → Q k → Q (suc k)
    steps k lt q = let e : k + 1 ≡ suc k = omega arith in
        go k (suc k) (omega arith) lt (cy.linked k (omega arith) ∙ ap (λ (m : ℕ). start es (get_or ds m 0)) e) q

    -- it goes on from the last dart to the first
    wrap : Q (length ds - 1) → Q 0
    wrap q = go (length ds - 1) 0 (omega arith) (omega arith) cy.closed q

-- what goes on to an edge that shares a vertex and is in one block goes on within the block
pub carry_block : (es : List (ℕ × ℕ)) (P : ℕ → Type 0) (e f : ℕ) → AreInOneBlock es e f
    → ((f g v x y : ℕ) → f < length es → g < length es → Joins (get_or es f (0, 0)) v x → Joins (get_or es g (0, 0)) v y
    → AreInOneBlock es f g → P f → P g) → P e → P f
carry_block es P e f block next p =
    ⊎_elim
    (λ same. subst P same p)
    (λ q. subst P q.3.2 (carry_cycle es P q.0 q.2.0 q.3.0 q.1 q.2.1 q.3.1
    (λ a b v x y lta ltb ja jb ha hb pa. next a b v x y lta ltb ja jb (inr (q.0, q.1, ha, hb)) pa)
    (subst P (sym q.2.2) p)))
    block

-- two edges that are in one block with a third are in one block
pub block-trans : (es : List (ℕ × ℕ)) (e f g : ℕ) → HaveNoLoop es → AreInOneBlock es e f → AreInOneBlock es f g
    → AreInOneBlock es e g
block-trans es e f g none ef fg =
    carry_block es (AreInOneBlock es e) f g fg
    (λ a b v x y lta ltb ja jb ab p. through es e a b v x y none lta ltb ja jb ab p) ef

-- in one block, read the other way
pub block-sym : (es : List (ℕ × ℕ)) (e f : ℕ) → AreInOneBlock es e f → AreInOneBlock es f e
block-sym es e f b = ⊎_elim (λ same. inl (sym same)) (λ q. inr (q.0, q.1, q.3, q.2)) b

-- edges that are connected by links within blocks are in one block
pub block_connected : (es links : List (ℕ × ℕ)) (e f : ℕ) → HaveNoLoop es
    → ((p : ℕ × ℕ) → Contains links p → AreInOneBlock es p.0 p.1) → Connected links e f → AreInOneBlock es e f
block_connected es links e f none linked here = inl refl
block_connected es links e f none linked (step {y = g} c p k j) =
    block-trans es e g f none (block_connected es links e g none linked c)
    (⊎_elim
    (λ h. subst (λ (z : ℕ). AreInOneBlock es g z) h.1 (subst (λ (z : ℕ). AreInOneBlock es z p.1) h.0 (linked p k)))
    (λ h. block-sym es f g (subst (λ (z : ℕ). AreInOneBlock es f z) h.1
    (subst (λ (z : ℕ). AreInOneBlock es z p.1) h.0 (linked p k))))
    j)

-- where edges that share a vertex and a block are connected by links, all edges of a block are
pub connected_block : (es links : List (ℕ × ℕ)) (e f : ℕ)
    → ((f g v x y : ℕ) → f < length es → g < length es → Joins (get_or es f (0, 0)) v x → Joins (get_or es g (0, 0)) v y
    → AreInOneBlock es f g → Connected links f g) → AreInOneBlock es e f → Connected links e f
connected_block es links e f near block =
    carry_block es (Connected links e) e f block
    (λ a b v x y lta ltb ja jb ab c. Connected-trans links e a b c (near a b v x y lta ltb ja jb ab)) here
