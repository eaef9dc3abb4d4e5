-- Blocks of a graph that stands in another one: where with each edge its whole block is there, the blocks are the same.
use Rattle.std.proofs.Common.{◌≡◌, ℕ, zero, suc, ◌+◌, ◌-◌, ◌*◌, ◌/◌, ◌<◌, ◌↔◌, List, [], ◌∷◌, length, get_or, sym, refl, ap, ◌∙◌, subst, subst₂, inl, inr, ⊎_elim, arith}
use Rattle.cp_base.specs.Graphs.{AreWithin}
use Rattle.cp_orbits.specs.Connected.{Joins}
use Rattle.cp_conn.specs.Blocks.{IsSimpleCycle, AreInOneBlock}
use Rattle.cp_conn.specs.Darts.{start, finish}
use Rattle.cp_conn.proofs.DartChains.{dart_at, dart_joins, finish_within, Joins-sym, start_within}
use Rattle.cp_conn.proofs.OneBlock.{Joins_cases}

-- fs, a graph of n vertices, stands in es: each edge as the edge that original tells, each vertex as the one that h
-- tells
pub record StandsIn (n : ℕ) (fs es : List (ℕ × ℕ)) (original h : ℕ → ℕ) : Type 0 where
  pub within : AreWithin n fs
  pub edge_within : (i : ℕ) → i < length fs → original i < length es
  pub edges_apart : (i j : ℕ) → i < length fs → j < length fs → original i ≡ original j → i ≡ j
  pub vertices_apart : (x y : ℕ) → x < n → y < n → h x ≡ h y → x ≡ y
  pub ends : (i : ℕ) → i < length fs
      → Joins (get_or es (original i) (0, 0)) (h (get_or fs i (0, 0)).0) (h (get_or fs i (0, 0)).1)

-- with each edge of fs, each edge that is in one block with it in es is one of fs
abbrev pub HasWholeBlocks : List (ℕ × ℕ) → List (ℕ × ℕ) → (ℕ → ℕ) → Type 0
HasWholeBlocks fs es original =
    (i f : ℕ) → i < length fs → AreInOneBlock es (original i) f → (k : ℕ) × (k < length fs) × (original k ≡ f)

-- a list of items, one chosen for each item of a list
chosen : (P : ℕ → ℕ → Type 0) (ds : List ℕ) → ((i : ℕ) → i < length ds → (c : ℕ) × P (get_or ds i 0) c)
    → (cs : List ℕ) × (length cs ≡ length ds) × ((i : ℕ) → i < length ds → P (get_or ds i 0) (get_or cs i 0))
chosen P [] some = ([], refl, λ i lt. absurd (omega arith))
chosen P (d ∷ ds) some =
    let first : (c : ℕ) × P d c = some 0 (omega arith) in
    let rest : (cs : List ℕ) × (length cs ≡ length ds) × ((i : ℕ) → i < length ds → P (get_or ds i 0) (get_or cs i 0)) =
    chosen P ds (λ i lt. some (suc i) (omega arith)) in
    (first.0 ∷ rest.0, omega (arith, rest.1), each first rest)
  where
    -- the chosen items, the first before the rest, belong to the items of the list
    each : (first : (c : ℕ) × P d c)
        (rest : (cs : List ℕ) × (length cs ≡ length ds) × ((i : ℕ) → i < length ds → P (get_or ds i 0) (get_or cs i 0)))
        (i : ℕ) → i < length (d ∷ ds) → P (get_or (d ∷ ds) i 0) (get_or (first.0 ∷ rest.0) i 0)
    each first rest zero lt = first.1
    each first rest (suc i) lt = rest.2 i (omega arith)

-- darts of fs, as many as those of a simple cycle of es, which lead on where these do, and of which two start at one
-- vertex or are of one edge only where this holds of these, make a simple cycle
copied_cycle : (es fs : List (ℕ × ℕ)) (ds cs : List ℕ) → IsSimpleCycle es ds → length cs ≡ length ds
    → ((i : ℕ) → i < length ds → get_or cs i 0 < 2 * length fs)
    → ((i j : ℕ) → i < length ds → j < length ds → finish es (get_or ds i 0) ≡ start es (get_or ds j 0)
    → finish fs (get_or cs i 0) ≡ start fs (get_or cs j 0))
    → ((i j : ℕ) → i < length ds → j < length ds → start fs (get_or cs i 0) ≡ start fs (get_or cs j 0)
    → start es (get_or ds i 0) ≡ start es (get_or ds j 0))
    → ((i j : ℕ) → i < length ds → j < length ds → get_or cs i 0 / 2 ≡ get_or cs j 0 / 2
    → get_or ds i 0 / 2 ≡ get_or ds j 0 / 2)
    → IsSimpleCycle fs cs
copied_cycle es fs ds cs cycle size within linked starts edges = record {
  at_least_two = omega (arith, cycle.at_least_two);
  within = λ i lt. within i (omega arith);
  linked = λ i lt. linked i (i + 1) (omega arith) (omega arith) (cycle.linked i (omega arith));
  closed =
      ap (λ (k : ℕ). finish fs (get_or cs (k - 1) 0)) size
      ∙ linked (length ds - 1) 0 (omega (arith, cycle.at_least_two)) (omega (arith, cycle.at_least_two)) cycle.closed;
  vertices_differ = λ i j lti ltj same.
      cycle.vertices_differ i j (omega arith) (omega arith) (starts i j (omega arith) (omega arith) same);
  edges_differ = λ i j lti ltj same.
      cycle.edges_differ i j (omega arith) (omega arith) (edges i j (omega arith) (omega arith) same);
}

-- dart c of es is where dart d of fs stands
pub record IsCopy (fs es : List (ℕ × ℕ)) (original h : ℕ → ℕ) (d c : ℕ) : Type 0 where
  pub below : d < 2 * length fs
  pub within : c < 2 * length es
  pub edge : c / 2 ≡ original (d / 2)
  pub starts : start es c ≡ h (start fs d)
  pub finishes : finish es c ≡ h (finish fs d)

module _ (n : ℕ) (fs es : List (ℕ × ℕ)) (original h : ℕ → ℕ) (stands : StandsIn n fs es original h) where
  -- each dart of fs stands somewhere
  copy_there : (d : ℕ) → d < 2 * length fs → (c : ℕ) × IsCopy fs es original h d c
  copy_there d lt =
      let edge : d / 2 < length fs = omega arith in
      let joins : Joins (get_or es (original (d / 2)) (0, 0)) (h (start fs d)) (h (finish fs d)) =
      ⊎_elim
      (λ k. subst₂ (λ (x y : ℕ). Joins (get_or es (original (d / 2)) (0, 0)) (h x) (h y)) k.0 k.1
      (stands.ends (d / 2) edge))
      (λ k. Joins-sym (get_or es (original (d / 2)) (0, 0)) (h (finish fs d)) (h (start fs d))
      (subst₂ (λ (x y : ℕ). Joins (get_or es (original (d / 2)) (0, 0)) (h x) (h y)) k.0 k.1
      (stands.ends (d / 2) edge)))
      (dart_joins fs d lt) in
      let c = dart_at es (original (d / 2)) (h (start fs d)) (h (finish fs d))
      (stands.edge_within (d / 2) edge) joins in
      (c.0, record { below = lt; within = c.1; edge = c.2; starts = c.3; finishes = c.4 })

  -- a dart of an edge that stands somewhere is where a dart stands
  copy_back : (c k : ℕ) → c < 2 * length es → k < length fs → original k ≡ c / 2 → (d : ℕ) × IsCopy fs es original h d c
  copy_back c k lt ltk at =
      ⊎_elim
      (λ p. found (get_or fs k (0, 0)).0 (get_or fs k (0, 0)).1 (inl (refl, refl)) p.0 p.1)
      (λ p. found (get_or fs k (0, 0)).1 (get_or fs k (0, 0)).0 (inr (refl, refl)) p.1 p.0)
      (Joins_cases (get_or es (c / 2) (0, 0)) (start es c) (finish es c)
      (h (get_or fs k (0, 0)).0) (h (get_or fs k (0, 0)).1) (dart_joins es c lt)
      (subst (λ (e : ℕ). Joins (get_or es e (0, 0)) (h (get_or fs k (0, 0)).0) (h (get_or fs k (0, 0)).1)) at
      (stands.ends k ltk)))
    where
      -- where edge k joins x and y, a dart from where x stands to where y stands is where a dart stands
      found : (x y : ℕ) → Joins (get_or fs k (0, 0)) x y → start es c ≡ h x → finish es c ≡ h y
          → (d : ℕ) × IsCopy fs es original h d c
      found x y j from to =
          let d = dart_at fs k x y ltk j in (
            d.0,
            record {
              below = d.1;
              within = lt;
              edge = sym at ∙ ap original (sym d.2);
              starts = from ∙ ap h (sym d.3);
              finishes = to ∙ ap h (sym d.4);
            },
          )

  -- a simple cycle of fs stands in es as one
  cycle_there : (ds cs : List ℕ) → IsSimpleCycle fs ds → length cs ≡ length ds
      → ((i : ℕ) → i < length ds → IsCopy fs es original h (get_or ds i 0) (get_or cs i 0)) → IsSimpleCycle es cs
  cycle_there ds cs cycle size copy =
      copied_cycle fs es ds cs cycle size
      (λ i lt. (copy i lt).within)
      (λ i j lti ltj same. (copy i lti).finishes ∙ ap h same ∙ sym (copy j ltj).starts)
      (λ i j lti ltj same.
      stands.vertices_apart (start fs (get_or ds i 0)) (start fs (get_or ds j 0))
      (start_within n fs (get_or ds i 0) stands.within (copy i lti).below)
      (start_within n fs (get_or ds j 0) stands.within (copy j ltj).below)
      (sym (copy i lti).starts ∙ same ∙ (copy j ltj).starts))
      (λ i j lti ltj same.
      stands.edges_apart (get_or ds i 0 / 2) (get_or ds j 0 / 2)
      (omega (arith, (copy i lti).below)) (omega (arith, (copy j ltj).below))
      (sym (copy i lti).edge ∙ same ∙ (copy j ltj).edge))

  -- a simple cycle of es all of whose edges are of fs is one of fs
  cycle_back : (cs ds : List ℕ) → IsSimpleCycle es cs → length ds ≡ length cs
      → ((i : ℕ) → i < length cs → IsCopy fs es original h (get_or ds i 0) (get_or cs i 0)) → IsSimpleCycle fs ds
  cycle_back cs ds cycle size copy =
      copied_cycle es fs cs ds cycle size
      (λ i lt. (copy i lt).below)
      (λ i j lti ltj same.
      stands.vertices_apart (finish fs (get_or ds i 0)) (start fs (get_or ds j 0))
      (finish_within n fs (get_or ds i 0) stands.within (copy i lti).below)
      (start_within n fs (get_or ds j 0) stands.within (copy j ltj).below)
      (sym (copy i lti).finishes ∙ same ∙ (copy j ltj).starts))
      (λ i j lti ltj same. (copy i lti).starts ∙ ap h same ∙ sym (copy j ltj).starts)
      (λ i j lti ltj same. (copy i lti).edge ∙ ap original same ∙ sym (copy j ltj).edge)

  -- edges of one block of fs stand in one block of es
  pub block_there : (i j : ℕ) → AreInOneBlock fs i j → AreInOneBlock es (original i) (original j)
  block_there i j block =
      ⊎_elim
      (λ same. inl (ap original same))
      (λ q.
      let c : (cs : List ℕ) × (length cs ≡ length q.0) × ((k : ℕ) → k < length q.0 → IsCopy fs es original h
      (get_or q.0 k 0) (get_or cs k 0)) =
      chosen (IsCopy fs es original h) q.0 (λ k lt. copy_there (get_or q.0 k 0) (q.1.within k lt)) in
      inr (
        c.0,
        cycle_there q.0 c.0 q.1 c.1 c.2,
        (q.2.0, omega (arith, q.2.1, c.1), (c.2 q.2.0 q.2.1).edge ∙ ap original q.2.2),
        (q.3.0, omega (arith, q.3.1, c.1), (c.2 q.3.0 q.3.1).edge ∙ ap original q.3.2),
      ))
      block

  -- and back, where whole blocks are there
  pub block_back : HasWholeBlocks fs es original → (i j : ℕ) → i < length fs → j < length fs
      → AreInOneBlock es (original i) (original j) → AreInOneBlock fs i j
  block_back whole i j lti ltj block =
      ⊎_elim
      (λ same. inl (stands.edges_apart i j lti ltj same))
      (λ q.
      let d : (ds : List ℕ) × (length ds ≡ length q.0) × ((k : ℕ) → k < length q.0 → IsCopy fs es original h
      (get_or ds k 0) (get_or q.0 k 0)) =
      chosen (λ c d. IsCopy fs es original h d c) q.0 (λ k lt.
      let from = whole i (get_or q.0 k 0 / 2) lti (inr (q.0, q.1, q.2, (k, lt, refl))) in
      copy_back (get_or q.0 k 0) from.0 (q.1.within k lt) from.1 from.2) in
      inr (
        d.0,
        cycle_back q.0 d.0 q.1 d.1 d.2,
        (
          q.2.0,
          omega (arith, q.2.1, d.1),
          edge_back i lti (get_or d.0 q.2.0 0) (get_or q.0 q.2.0 0)
              (d.2 q.2.0 q.2.1) q.2.2,
        ),
        (
          q.3.0,
          omega (arith, q.3.1, d.1),
          edge_back j ltj (get_or d.0 q.3.0 0) (get_or q.0 q.3.0 0)
              (d.2 q.3.0 q.3.1) q.3.2,
        ),
      ))
      block
    where
      -- a dart that stands on the edge where edge k stands is of edge k
      edge_back : (k : ℕ) → k < length fs → (d c : ℕ) → IsCopy fs es original h d c → c / 2 ≡ original k → d / 2 ≡ k
      edge_back k ltk d c copy at =
          stands.edges_apart (d / 2) k (omega (arith, copy.below)) ltk (sym copy.edge ∙ at)

  -- edges are in one block of fs exactly where they stand in one block of es
  pub blocks_of_part : HasWholeBlocks fs es original → (i j : ℕ) → i < length fs → j < length fs
      → AreInOneBlock fs i j ↔ AreInOneBlock es (original i) (original j)
  blocks_of_part whole i j lti ltj = (block_there i j, block_back whole i j lti ltj)
