-- Two edges at one vertex are in one block exactly where their other ends are connected without the vertex.
use Rattle.std.proofs.Common.{◌≡◌, ℕ, zero, suc, ◌+◌, ◌-◌, ◌*◌, ◌/◌, ◌%◌, ◌<◌, ◌≤◌, ◌⊎◌, ◌↔◌, List, [], ◌∷◌, ◌++◌, length, get_or, sym, refl, ap, ◌∙◌, subst, inl, inr, ⊎_elim, arith}
use Rattle.std.proofs.lemmas.Bool.{cases_eq, cases_lt}
use Rattle.std.proofs.lemmas.List.{get_or_push, length_push}
use Rattle.cp_orbits.specs.Classes.{labels}
use Rattle.cp_orbits.specs.Connected.{Joins, Connected}
use Rattle.cp_orbits.proofs.ClassLabels.{connected_labels}
use Rattle.cp_conn.specs.Darts.{start, finish}
use Rattle.cp_conn.specs.CutVertex.{avoids, without_vertex}
use Rattle.cp_conn.specs.Blocks.{IsSimpleCycle, HasEdge, AreInOneBlock}
use Rattle.cp_conn.proofs.DartChains.{Contains-at, dart_at, dart_joins, start_even, start_odd, finish_even, finish_odd, Joins-sym, labels_joined}
use Rattle.cp_conn.proofs.CutVertices.{kept_of, avoids_of}
use Rattle.cp_conn.proofs.Paths.{Leads, Misses, Apart, SimplePath, simple_path, Leads-append, Misses-last, Apart-last, Leads-within, Leads-first, Leads-linked, Leads-last, Apart-same}

-- a vertex has one other end at an edge
pub Joins-same : (e : ℕ × ℕ) (v x y : ℕ) → Joins e v x → Joins e v y → x ≡ y
Joins-same e v x y j k =
    ⊎_elim
    (λ h. ⊎_elim (λ i. sym h.1 ∙ i.1) (λ i. sym h.1 ∙ i.1 ∙ sym h.0 ∙ i.0) k)
    (λ h. ⊎_elim (λ i. sym h.0 ∙ i.0 ∙ sym h.1 ∙ i.1) (λ i. sym h.0 ∙ i.0) k)
    j

-- two darts of one edge are equal or the reverse of each other
pub one_edge : (es : List (ℕ × ℕ)) (c d : ℕ) → c / 2 ≡ d / 2 → (c ≡ d)
    ⊎ ((start es c ≡ finish es d) × (finish es c ≡ start es d))
one_edge es c d e =
    ⊎_elim
    (λ p. ⊎_elim
    (λ q. inl (omega arith))
    (λ q. inr (
      start_even es c p ∙ same (λ (x : ℕ × ℕ). x.0) ∙ sym (finish_odd es d q),
      finish_even es c p
          ∙ same (λ (x : ℕ × ℕ). x.1) ∙ sym (start_odd es d q),
    ))
    (cases_eq (d % 2) 0))
    (λ p. ⊎_elim
    (λ q. inr (
      start_odd es c p ∙ same (λ (x : ℕ × ℕ). x.1) ∙ sym (finish_even es d q),
      finish_odd es c p
          ∙ same (λ (x : ℕ × ℕ). x.0) ∙ sym (start_even es d q),
    ))
    (λ q. inl (omega arith))
    (cases_eq (d % 2) 0))
    (cases_eq (c % 2) 0)
  where
    -- what is read of the edges of the two darts is equal
    same : (g : ℕ × ℕ → ℕ) → g (get_or es (c / 2) (0, 0)) ≡ g (get_or es (d / 2) (0, 0))
    same g = ap (λ (k : ℕ). g (get_or es k (0, 0))) e

-- darts that start apart and lead back to their first vertex make a simple cycle, if they are at least two
-- and, where they are two, of two edges
pub cycle_of : (es : List (ℕ × ℕ)) (x : ℕ) (ds : List ℕ) → Leads es x ds x → Apart es ds → 2 ≤ length ds
    → (length ds ≡ 2 → get_or ds 0 0 / 2 ≡ get_or ds 1 0 / 2 → ⊥) → IsSimpleCycle es ds
cycle_of es x ds l a two differ = record {
  at_least_two = two;
  within = λ i lt. Leads-within es x x ds i l lt;
  linked = λ i lt. let e : suc i ≡ i + 1 = omega arith in
      subst (λ (k : ℕ). finish es (get_or ds i 0) ≡ start es (get_or ds k 0)) e
      (Leads-linked es x x ds i l (omega arith));
  closed = Leads-last es x x ds (length ds - 1) l (omega arith) ∙ sym (Leads-first es x x ds l (omega arith));
  vertices_differ = λ i j lti ltj e. Apart-same es ds i j a lti ltj e;
  edges_differ = λ i j lti ltj e. ⊎_elim (λ f. f)
      (λ ne. ⊎_elim (λ lt. absurd (later i j lt ltj e)) (λ ge. absurd (later j i (omega arith) lti (sym e)))
      (cases_lt i j)) (cases_eq i j);
}
  where
    -- where dart i ends another starts
    after : (i : ℕ) → i < length ds
        → (k : ℕ) × (k < length ds) × (finish es (get_or ds i 0) ≡ start es (get_or ds k 0))
        × (((k ≡ suc i)) ⊎ ((k ≡ 0) × (suc i ≡ length ds)))
    after i lt = ⊎_elim
        (λ e. (0, omega arith, Leads-last es x x ds i l e ∙ sym (Leads-first es x x ds l (omega arith)), inr (refl, e)))
        (λ ne. (suc i, omega arith, Leads-linked es x x ds i l (omega arith), inl refl))
        (cases_eq (suc i) (length ds))

    -- a later dart of the cycle is of another edge
    later : (i j : ℕ) → i < j → j < length ds → get_or ds i 0 / 2 ≡ get_or ds j 0 / 2 → ⊥
    later i j lt ltj e =
        ⊎_elim
        (λ f. let same : i ≡ j = Apart-same es ds i j a (omega arith) ltj (ap (start es) f) in omega arith)
        (λ h.
        let p = after i (omega arith) in
        let q = after j ltj in
        let there : p.0 ≡ j = Apart-same es ds p.0 j a p.1 ltj (sym p.2 ∙ h.1) in
        let back : q.0 ≡ i = Apart-same es ds q.0 i a q.1 (omega arith) (sym q.2 ∙ sym h.0) in
        let first : i ≡ 0 = omega (arith, p.3, q.3) in
        let second : j ≡ 1 = omega (arith, p.3, q.3) in
        differ (omega (arith, p.3, q.3))
        (ap (λ (k : ℕ). get_or ds k 0 / 2) (sym first) ∙ e ∙ ap (λ (k : ℕ). get_or ds k 0 / 2) second))
        (one_edge es (get_or ds i 0) (get_or ds j 0) e)

-- edges at v whose other ends are connected without v are in one block
pub one_block_of : (es : List (ℕ × ℕ)) (v e f x y : ℕ) → e < length es → f < length es → (e ≡ f → ⊥)
    → Joins (get_or es e (0, 0)) v x → Joins (get_or es f (0, 0)) v y → (y ≡ v → ⊥)
    → Connected (without_vertex v es) y x → AreInOneBlock es e f
one_block_of es v e f x y lte ltf differ je jf ney c =
    inr (
      ds,
      cycle_of es v ds leads apart (omega (arith, size)) two,
      (0, omega (arith, size), first.2),
      (
        suc (length p.darts),
        omega (arith, size),
        ap (λ (k : ℕ). k / 2)
            (get_or_push p.darts last.0 0 (length p.darts) refl) ∙ last.2,
      ),
    )
  where
    -- a simple path from x to y that does not touch v
    p : SimplePath es v x y
    p = simple_path es v y x c

    -- the dart of e from v to x
    first : (d : ℕ) × (d < 2 * length es) × (d / 2 ≡ e) × (start es d ≡ v) × (finish es d ≡ x)
    first = dart_at es e v x lte je

    -- the dart of f from y to v
    last : (d : ℕ) × (d < 2 * length es) × (d / 2 ≡ f) × (start es d ≡ y) × (finish es d ≡ v)
    last = dart_at es f y v ltf (Joins-sym (get_or es f (0, 0)) v y jf)

    -- the dart of e, the path, and the dart of f
    ds : List ℕ
    ds = first.0 ∷ (p.darts ++ last.0 ∷ [])

    -- how many darts these are
    size : length ds ≡ length p.darts + 2
    size = omega (arith, length_push p.darts last.0)

    -- they lead from v to v
    leads : Leads es v ds v
    leads = (
      first.1,
      first.3,
      subst (λ (z : ℕ). Leads es z (p.darts ++ last.0 ∷ []) v) (sym first.4)
          (Leads-append es x y v p.darts (last.0 ∷ []) p.leads (last.1, last.3, last.4)),
    )

    -- no two of them start at one vertex
    apart : Apart es ds
    apart = (
      subst (λ (z : ℕ). Misses es z (p.darts ++ last.0 ∷ [])) (sym first.3)
          (Misses-last es v last.0 p.darts p.avoids (λ g. ney (sym last.3 ∙ g))),
      Apart-last es last.0 p.darts p.apart (subst (λ (z : ℕ). Misses es z p.darts) (sym last.3) p.ends),
    )

    -- where they are two, they are of two edges
    two : length ds ≡ 2 → get_or ds 0 0 / 2 ≡ get_or ds 1 0 / 2 → ⊥
    two n g = differ (sym first.2 ∙ g ∙ ap (λ (k : ℕ). k / 2) (get_or_push p.darts last.0 0 0 (omega (arith, size)))
        ∙ last.2)

-- a value that each step keeps is the same at both ends
pub flat : (h : ℕ → ℕ) (lo hi : ℕ) → lo ≤ hi → ((j : ℕ) → lo ≤ j → j < hi → h j ≡ h (suc j)) → h lo ≡ h hi
flat h lo zero le steps = let e : lo ≡ 0 = omega arith in ap h e
flat h lo (suc hi) le steps =
    ⊎_elim
    (λ e. ap h e)
    (λ ne. flat h lo hi (omega arith) (λ j l lt. steps j l (omega arith)) ∙ steps hi (omega arith) (omega arith))
    (cases_eq lo (suc hi))

-- the ends of an edge, read twice
pub Joins_cases : (p : ℕ × ℕ) (s t v x : ℕ) → Joins p s t → Joins p v x → ((s ≡ v) × (t ≡ x)) ⊎ ((t ≡ v) × (s ≡ x))
Joins_cases p s t v x j k =
    ⊎_elim
    (λ h. ⊎_elim (λ i. inl (sym h.0 ∙ i.0, sym h.1 ∙ i.1)) (λ i. inr (sym h.1 ∙ i.1, sym h.0 ∙ i.0)) k)
    (λ h. ⊎_elim (λ i. inr (sym h.0 ∙ i.0, sym h.1 ∙ i.1)) (λ i. inl (sym h.1 ∙ i.1, sym h.0 ∙ i.0)) k)
    j

-- the ends of a dart that v does not touch are connected without v
pub clear_dart : (es : List (ℕ × ℕ)) (v d : ℕ) → d < 2 * length es → (start es d ≡ v → ⊥) → (finish es d ≡ v → ⊥)
    → labels (without_vertex v es) (start es d) ≡ labels (without_vertex v es) (finish es d)
clear_dart es v d lt from to =
    labels_joined (without_vertex v es) pair (start es d) (finish es d)
    (kept_of (avoids v) es pair (Contains-at es (d / 2) (omega arith))
    (⊎_elim (λ h. avoids_of v pair (λ g. from (sym h.0 ∙ g)) (λ g. to (sym h.1 ∙ g)))
    (λ h. avoids_of v pair (λ g. to (sym h.0 ∙ g)) (λ g. from (sym h.1 ∙ g))) joins)) joins
  where
    -- the edge of the dart
    pair : ℕ × ℕ
    pair = get_or es (d / 2) (0, 0)

    -- it joins the two ends of the dart
    joins : Joins (get_or es (d / 2) (0, 0)) (start es d) (finish es d)
    joins = dart_joins es d lt

-- at a vertex of a simple cycle: the dart a that starts there, the dart b that ends there, and the other ends of the
-- two
-- are connected without the vertex
pub record Corner (es : List (ℕ × ℕ)) (ds : List ℕ) (v : ℕ) : Type 0 where
  pub a : ℕ
  pub b : ℕ
  pub leaves : (i : ℕ) → i < length ds → start es (get_or ds i 0) ≡ v → i ≡ a
  pub enters : (i : ℕ) → i < length ds → finish es (get_or ds i 0) ≡ v → i ≡ b
  pub around : labels (without_vertex v es) (finish es (get_or ds a 0))
      ≡ labels (without_vertex v es) (start es (get_or ds b 0))

-- each vertex of a simple cycle is a corner of it
pub corner : (es : List (ℕ × ℕ)) (ds : List ℕ) (v a : ℕ) → IsSimpleCycle es ds → a < length ds
    → start es (get_or ds a 0) ≡ v → Corner es ds v
corner es ds v a cy lt at =
    ⊎_elim
    (λ zero_is. record {
      a = a;
      b = length ds - 1;
      leaves = leaves;
      enters = λ i lti e. ⊎_elim
          (λ f. omega arith)
          (λ nf. let g : suc i ≡ a = leaves (suc i) (omega arith) (sym (next i (omega arith)) ∙ e) in omega arith)
          (cases_eq (suc i) (length ds));
      around = let one : suc a ≡ 1 = omega arith in ap g (next a (omega (arith, cy.at_least_two))) ∙ ap h one
          ∙ flat h 1 (length ds - 1) (omega (arith, cy.at_least_two))
          (λ j l ltj. steps j (omega arith) (omega arith) (omega arith));
    })
    (λ later. record {
      a = a;
      b = a - 1;
      leaves = leaves;
      enters = λ i lti e. ⊎_elim
          (λ f. let z : 0 ≡ a = leaves 0 (omega arith)
          (sym cy.closed ∙ ap (λ (k : ℕ). finish es (get_or ds k 0)) (omega arith) ∙ e) in absurd (later (sym z)))
          (λ nf. let g : suc i ≡ a = leaves (suc i) (omega arith) (sym (next i (omega arith)) ∙ e) in omega arith)
          (cases_eq (suc i) (length ds));
      around = ⊎_elim
          (λ f. let last : a ≡ length ds - 1 = omega arith in ap (λ (k : ℕ). g (finish es (get_or ds k 0))) last
          ∙ ap g cy.closed ∙ flat h 0 (a - 1) (omega arith)
          (λ j l ltj. steps j (omega arith) (omega arith) (omega arith)))
          (λ nf. ap g (next a (omega arith))
          ∙ flat h (suc a) (length ds - 1) (omega arith)
          (λ j l ltj. steps j (omega arith) (omega arith) (omega arith))
          ∙ clear_dart es v (get_or ds (length ds - 1) 0) (cy.within (length ds - 1) (omega arith))
          (λ e. let z : length ds - 1 ≡ a = leaves (length ds - 1) (omega arith) e in omega arith)
          (λ e. let z : 0 ≡ a = leaves 0 (omega arith) (sym cy.closed ∙ e) in later (sym z))
          ∙ ap g cy.closed ∙ flat h 0 (a - 1) (omega arith)
          (λ j l ltj. steps j (omega arith) (omega arith) (omega arith)))
          (cases_eq (suc a) (length ds));
    })
    (cases_eq a 0)
  where
    -- the label of a vertex where v is removed
    g : ℕ → ℕ
    g x = labels (without_vertex v es) x

    -- the label of the start of dart i where v is removed
    h : ℕ → ℕ
    h i = labels (without_vertex v es) (start es (get_or ds i 0))

    -- a dart that starts at v is dart a
    leaves : (i : ℕ) → i < length ds → start es (get_or ds i 0) ≡ v → i ≡ a
    leaves i lti e = cy.vertices_differ i a lti lt (e ∙ sym at)

    -- each dart ends where the next starts
    next : (i : ℕ) → suc i < length ds → finish es (get_or ds i 0) ≡ start es (get_or ds (suc i) 0)
    next i lti = let e : i + 1 ≡ suc i = omega arith in cy.linked i (omega arith)
        ∙ ap (λ (k : ℕ). start es (get_or ds k 0)) e

    -- the label stays the same along a dart that does not touch v
    steps : (j : ℕ) → suc j < length ds → (j ≡ a → ⊥) → (suc j ≡ a → ⊥) → h j ≡ h (suc j)
    steps j ltj one two =
        clear_dart es v (get_or ds j 0) (cy.within j (omega arith)) (λ e. one (leaves j (omega arith) e))
        (λ e. two (leaves (suc j) ltj (sym (next j ltj) ∙ e))) ∙ ap g (next j ltj)

-- the edge of a simple cycle that has v as an end leaves v or enters it
at_corner : (es : List (ℕ × ℕ)) (ds : List ℕ) (v e x i : ℕ) (c : Corner es ds v) → IsSimpleCycle es ds → i < length ds
    → get_or ds i 0 / 2 ≡ e → Joins (get_or es e (0, 0)) v x → ((i ≡ c.a) × (finish es (get_or ds c.a 0) ≡ x))
    ⊎ ((i ≡ c.b) × (start es (get_or ds c.b 0) ≡ x))
at_corner es ds v e x i c cy lt is j =
    ⊎_elim
    (λ h. let at : i ≡ c.a = c.leaves i lt h.0 in inl (at, ap (λ (k : ℕ). finish es (get_or ds k 0)) (sym at) ∙ h.1))
    (λ h. let at : i ≡ c.b = c.enters i lt h.0 in inr (at, ap (λ (k : ℕ). start es (get_or ds k 0)) (sym at) ∙ h.1))
    (Joins_cases (get_or es e (0, 0)) (start es (get_or ds i 0)) (finish es (get_or ds i 0)) v x joins j)
  where
    -- edge e joins the two ends of dart i
    joins : Joins (get_or es e (0, 0)) (start es (get_or ds i 0)) (finish es (get_or ds i 0))
    joins = subst (λ (k : ℕ). Joins (get_or es k (0, 0)) (start es (get_or ds i 0)) (finish es (get_or ds i 0))) is
        (dart_joins es (get_or ds i 0) (cy.within i lt))

-- an end of an edge of a simple cycle is a corner of it
corner_at : (es : List (ℕ × ℕ)) (ds : List ℕ) (v e x i : ℕ) → IsSimpleCycle es ds → i < length ds
    → get_or ds i 0 / 2 ≡ e → Joins (get_or es e (0, 0)) v x → Corner es ds v
corner_at es ds v e x i cy lt is j =
    ⊎_elim
    (λ h. corner es ds v i cy lt h.0)
    (λ h. ⊎_elim
    (λ last. corner es ds v 0 cy (omega arith)
    (sym cy.closed ∙ ap (λ (k : ℕ). finish es (get_or ds k 0)) (omega arith) ∙ h.0))
    (λ more. corner es ds v (i + 1) cy (omega arith) (sym (cy.linked i (omega arith)) ∙ h.0))
    (cases_eq (suc i) (length ds)))
    (Joins_cases (get_or es e (0, 0)) (start es (get_or ds i 0)) (finish es (get_or ds i 0)) v x joins j)
  where
    -- edge e joins the two ends of dart i
    joins : Joins (get_or es e (0, 0)) (start es (get_or ds i 0)) (finish es (get_or ds i 0))
    joins = subst (λ (k : ℕ). Joins (get_or es k (0, 0)) (start es (get_or ds i 0)) (finish es (get_or ds i 0))) is
        (dart_joins es (get_or ds i 0) (cy.within i lt))

-- two edges at v that are in one block have other ends that are connected without v
pub connected_of : (es : List (ℕ × ℕ)) (v e f x y : ℕ) → (e ≡ f → ⊥) → Joins (get_or es e (0, 0)) v x
    → Joins (get_or es f (0, 0)) v y → AreInOneBlock es e f
    → labels (without_vertex v es) x ≡ labels (without_vertex v es) y
connected_of es v e f x y differ je jf block =
    ⊎_elim
    (λ same. absurd (differ same))
    (λ q. on_cycle q.0 q.1 q.2 q.3)
    block
  where
    -- the other ends of two edges of a simple cycle are connected where v is removed
    on_cycle : (ds : List ℕ) → IsSimpleCycle es ds → HasEdge ds e → HasEdge ds f
        → labels (without_vertex v es) x ≡ labels (without_vertex v es) y
    on_cycle ds cy he hf =
        let c : Corner es ds v = corner_at es ds v e x he.0 cy he.1 he.2 je in
        ⊎_elim
        (λ p. ⊎_elim
        (λ q. absurd (differ (sym he.2 ∙ ap (λ (k : ℕ). get_or ds k 0 / 2) (p.0 ∙ sym q.0) ∙ hf.2)))
        (λ q. ap (labels (without_vertex v es)) (sym p.1) ∙ c.around ∙ ap (labels (without_vertex v es)) q.1)
        (at_corner es ds v f y hf.0 c cy hf.1 hf.2 jf))
        (λ p. ⊎_elim
        (λ q. ap (labels (without_vertex v es)) (sym p.1) ∙ sym c.around ∙ ap (labels (without_vertex v es)) q.1)
        (λ q. absurd (differ (sym he.2 ∙ ap (λ (k : ℕ). get_or ds k 0 / 2) (p.0 ∙ sym q.0) ∙ hf.2)))
        (at_corner es ds v f y hf.0 c cy hf.1 hf.2 jf))
        (at_corner es ds v e x he.0 c cy he.1 he.2 je)

-- two edges at v are in one block exactly where their other ends are in one component of what is left without v
pub one_block_at : (es : List (ℕ × ℕ)) (v e f x y : ℕ) → e < length es → f < length es → Joins (get_or es e (0, 0)) v x
    → Joins (get_or es f (0, 0)) v y → (x ≡ v → ⊥) → (y ≡ v → ⊥) → AreInOneBlock es e f
    ↔ (labels (without_vertex v es) x ≡ labels (without_vertex v es) y)
one_block_at es v e f x y lte ltf je jf nex ney = (
  λ block. ⊎_elim
      (λ same. ap (labels (without_vertex v es))
      (Joins-same (get_or es f (0, 0)) v x y (subst (λ (k : ℕ). Joins (get_or es k (0, 0)) v x) same je) jf))
      (λ differ. connected_of es v e f x y differ je jf block)
      (cases_eq e f),
  λ same. ⊎_elim
      (λ e_is. inl e_is)
      (λ differ. one_block_of es v e f x y lte ltf differ je jf ney
      (connected_labels (without_vertex v es) y x (sym same)))
      (cases_eq e f),
)
