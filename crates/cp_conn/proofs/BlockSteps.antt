-- Blocks are classes: an edge that is in one block with an edge on a cycle can be put on a cycle with it.
use Rattle.std.proofs.Common.{◌≡◌, ℕ, zero, suc, ◌+◌, ◌-◌, ◌*◌, ◌/◌, ◌%◌, ◌<◌, ◌≤◌, ◌⊎◌, List, [], ◌∷◌, ◌++◌, length, get_or, take, drop, sym, refl, ap, ◌∙◌, subst, inl, inr, ⊎_elim, arith, length-append}
use Rattle.std.proofs.lemmas.Bool.{cases_eq, cases_lt}
use Rattle.std.proofs.lemmas.List.{get_or_push, length_push, get_or_append_left, get_or-append_right, get_or-drop, get_or-take, length-drop, take-append-drop, length-take-le}
use Rattle.cp_orbits.specs.Connected.{Joins, Connected, here, step}
use Rattle.cp_orbits.specs.Twins.{twin}
use Rattle.cp_orbits.specs.Classes.{labels}
use Rattle.cp_orbits.proofs.ClassLabels.{connected_labels}
use Rattle.cp_orbits.proofs.Twins.{twin_even, twin_odd, half_twin}
use Rattle.cp_conn.specs.Darts.{start, finish}
use Rattle.cp_conn.specs.CutVertex.{avoids, without_vertex}
use Rattle.cp_conn.specs.Blocks.{IsSimpleCycle, HasEdge, AreInOneBlock}
use Rattle.cp_conn.proofs.DartChains.{dart_at, dart_of, start_even, start_odd, finish_even, finish_odd, Joins-sym, dart_joins}
use Rattle.cp_conn.proofs.CutVertices.{kept_pair, avoided}
use Rattle.cp_conn.proofs.Paths.{Leads, Misses, Apart, Leads-append, Misses-last, Misses_at, Apart-last, Leads-first}
use Rattle.cp_conn.proofs.OneBlock.{cycle_of, Joins_cases, one_block_at}

-- no dart of the one list starts where a dart of the other does
abbrev pub Disjoint : List (ℕ × ℕ) → List ℕ → List ℕ → Type 0
Disjoint es [] qs = Unit {0}
Disjoint es (p ∷ ps) qs = Misses es (start es p) qs × Disjoint es ps qs

-- two lists that miss a vertex miss it one behind the other
pub Misses-append : (es : List (ℕ × ℕ)) (z : ℕ) (ps qs : List ℕ) → Misses es z ps → Misses es z qs
    → Misses es z (ps ++ qs)
Misses-append es z [] qs m n = n
Misses-append es z (p ∷ ps) qs m n = (m.0, Misses-append es z ps qs m.1 n)

-- both parts of a list that misses a vertex miss it
pub Misses-parts : (es : List (ℕ × ℕ)) (z : ℕ) (ps qs : List ℕ) → Misses es z (ps ++ qs)
    → Misses es z ps × Misses es z qs
Misses-parts es z [] qs m = (tt, m)
Misses-parts es z (p ∷ ps) qs m = let h = Misses-parts es z ps qs m.1 in ((m.0, h.0), h.1)

-- two disjoint lists that start apart start apart one behind the other
pub Apart-append : (es : List (ℕ × ℕ)) (ps qs : List ℕ) → Apart es ps → Apart es qs → Disjoint es ps qs
    → Apart es (ps ++ qs)
Apart-append es [] qs a b d = b
Apart-append es (p ∷ ps) qs a b d = (Misses-append es (start es p) ps qs a.0 d.0, Apart-append es ps qs a.1 b d.1)

-- the parts of a list that starts apart
pub Apart-parts : (es : List (ℕ × ℕ)) (ps qs : List ℕ) → Apart es (ps ++ qs)
    → Apart es ps × Apart es qs × Disjoint es ps qs
Apart-parts es [] qs a = (tt, a, tt)
Apart-parts es (p ∷ ps) qs a =
    let m = Misses-parts es (start es p) ps qs a.0 in
    let h = Apart-parts es ps qs a.1 in
    ((m.0, h.0), h.1, (m.1, h.2))

-- a list is disjoint from the empty one
Disjoint-none : (es : List (ℕ × ℕ)) (ps : List ℕ) → Disjoint es ps []
Disjoint-none es [] = tt
Disjoint-none es (p ∷ ps) = (tt, Disjoint-none es ps)

-- a list that is disjoint from another and misses the start of a dart is disjoint from both together
Disjoint-first : (es : List (ℕ × ℕ)) (ps : List ℕ) (q : ℕ) (qs : List ℕ) → Misses es (start es q) ps → Disjoint es ps qs
    → Disjoint es ps (q ∷ qs)
Disjoint-first es [] q qs m d = tt
Disjoint-first es (p ∷ ps) q qs m d = ((λ e. m.0 (sym e), d.0), Disjoint-first es ps q qs m.1 d.1)

-- where a list is disjoint from another, that is disjoint from it
pub Disjoint-sym : (es : List (ℕ × ℕ)) (ps qs : List ℕ) → Disjoint es ps qs → Disjoint es qs ps
Disjoint-sym es [] qs d = Disjoint-none es qs
Disjoint-sym es (p ∷ ps) qs d = Disjoint-first es qs p ps d.0 (Disjoint-sym es ps qs d.1)

-- a list that is disjoint from two lists one after the other is disjoint from both
pub Disjoint-parts : (es : List (ℕ × ℕ)) (ds ps qs : List ℕ) → Disjoint es ds (ps ++ qs)
    → Disjoint es ds ps × Disjoint es ds qs
Disjoint-parts es [] ps qs d = (tt, tt)
Disjoint-parts es (x ∷ ds) ps qs d =
    let m = Misses-parts es (start es x) ps qs d.0 in
    let h = Disjoint-parts es ds ps qs d.1 in
    ((m.0, h.0), (m.1, h.1))

-- an edge of the first part is one of the whole list
pub HasEdge-left : (e : ℕ) (ps qs : List ℕ) → HasEdge ps e → HasEdge (ps ++ qs) e
HasEdge-left e ps qs h = (
  h.0,
  omega (arith, h.1, length-append ps qs),
  ap (λ (k : ℕ). k / 2)
      (get_or_append_left ps qs 0 h.0 h.1) ∙ h.2,
)

-- an edge of the second part is one of the whole list
pub HasEdge-right : (e : ℕ) (ps qs : List ℕ) → HasEdge qs e → HasEdge (ps ++ qs) e
HasEdge-right e ps qs h = (
  length ps + h.0,
  omega (arith, h.1, length-append ps qs),
  ap (λ (k : ℕ). k / 2)
      (get_or-append_right ps qs (length ps) (length ps + h.0) 0 refl (omega arith)
      ∙ ap (λ (k : ℕ). get_or qs k 0) (omega arith)) ∙ h.2,
)

-- an edge of two parts is of one of them
pub HasEdge-cases : (e : ℕ) (ps qs : List ℕ) → HasEdge (ps ++ qs) e → HasEdge ps e ⊎ HasEdge qs e
HasEdge-cases e ps qs h =
    ⊎_elim
    (λ lt. inl (h.0, lt, ap (λ (k : ℕ). k / 2) (sym (get_or_append_left ps qs 0 h.0 lt)) ∙ h.2))
    (λ ge. inr (
      h.0 - length ps,
      omega (arith, h.1, length-append ps qs),
      ap (λ (k : ℕ). k / 2)
          (sym (get_or-append_right ps qs (length ps) h.0 0 refl ge)) ∙ h.2,
    ))
    (cases_lt h.0 (length ps))

-- a way in two parts leads to some vertex and on from there
pub Leads-parts : (es : List (ℕ × ℕ)) (x z : ℕ) (ps qs : List ℕ) → Leads es x (ps ++ qs) z
    → (y : ℕ) × Leads es x ps y × Leads es y qs z
Leads-parts es x z [] qs l = (x, refl, l)
Leads-parts es x z (p ∷ ps) qs l = let h = Leads-parts es (finish es p) z ps qs l.2 in (h.0, (l.0, l.1, h.1), h.2)

-- the reverse of a dart is a dart
pub twin-lt : (n d : ℕ) → d < 2 * n → twin d < 2 * n
twin-lt n d lt = ⊎_elim (λ e. omega (arith, twin_even d e)) (λ ne. omega (arith, twin_odd d ne)) (cases_eq (d % 2) 0)

-- the reverse of a dart starts where the dart ends
pub start_twin : (es : List (ℕ × ℕ)) (d : ℕ) → start es (twin d) ≡ finish es d
start_twin es d =
    ⊎_elim
    (λ e. start_odd es (twin d) (λ f. omega (arith, twin_even d e))
    ∙ ap (λ (k : ℕ). (get_or es k (0, 0)).1) (half_twin d) ∙ sym (finish_even es d e))
    (λ ne. start_even es (twin d) (omega (arith, twin_odd d ne)) ∙ ap (λ (k : ℕ). (get_or es k (0, 0)).0) (half_twin d)
    ∙ sym (finish_odd es d ne))
    (cases_eq (d % 2) 0)

-- the reverse of a dart ends where the dart starts
pub finish_twin : (es : List (ℕ × ℕ)) (d : ℕ) → finish es (twin d) ≡ start es d
finish_twin es d =
    ⊎_elim
    (λ e. finish_odd es (twin d) (λ f. omega (arith, twin_even d e))
    ∙ ap (λ (k : ℕ). (get_or es k (0, 0)).0) (half_twin d) ∙ sym (start_even es d e))
    (λ ne. finish_even es (twin d) (omega (arith, twin_odd d ne)) ∙ ap (λ (k : ℕ). (get_or es k (0, 0)).1) (half_twin d)
    ∙ sym (start_odd es d ne))
    (cases_eq (d % 2) 0)

-- a list of darts the other way round
abbrev pub back : List ℕ → List ℕ
back [] = []
back (d ∷ ds) = back ds ++ twin d ∷ []

-- the way back leads back
pub Leads-back : (es : List (ℕ × ℕ)) (x y : ℕ) (ds : List ℕ) → Leads es x ds y → Leads es y (back ds) x
Leads-back es x y [] l = sym l
Leads-back es x y (d ∷ ds) l =
    Leads-append es y (finish es d) x (back ds) (twin d ∷ []) (Leads-back es (finish es d) y ds l.2)
    (twin-lt (length es) d l.0, start_twin es d, finish_twin es d ∙ l.1)

-- where the first dart ends is not missed by the rest, or is the end
head_not : (es : List (ℕ × ℕ)) (z x y : ℕ) (ds : List ℕ) → Leads es x ds y → Misses es z ds → (y ≡ z → ⊥) → x ≡ z → ⊥
head_not es z x y [] l m ne e = ne (sym l ∙ e)
head_not es z x y (d ∷ ds) l m ne e = m.0 (l.1 ∙ e)

-- the way back misses what the way misses behind its first dart
pub Misses-back : (es : List (ℕ × ℕ)) (z y d : ℕ) (ds : List ℕ) → Leads es (finish es d) ds y → Misses es z ds
    → (y ≡ z → ⊥) → Misses es z (back (d ∷ ds))
Misses-back es z y d [] l m ne = (λ e. ne (sym l ∙ sym (start_twin es d) ∙ e), tt)
Misses-back es z y d (c ∷ ds) l m ne =
    Misses-last es z (twin d) (back (c ∷ ds)) (Misses-back es z y c ds l.2 m.1 ne)
    (λ e. m.0 (l.1 ∙ sym (start_twin es d) ∙ e))

-- the way back starts apart
pub Apart-back : (es : List (ℕ × ℕ)) (x y : ℕ) (ds : List ℕ) → Leads es x ds y → Apart es ds → Misses es y ds
    → Apart es (back ds)
Apart-back es x y [] l a m = tt
Apart-back es x y (d ∷ []) l a m = (tt, tt)
Apart-back es x y (d ∷ c ∷ ds) l a m =
    Apart-last es (twin d) (back (c ∷ ds)) (Apart-back es (finish es d) y (c ∷ ds) l.2 a.1 m.1)
    (subst (λ (z : ℕ). Misses es z (back (c ∷ ds))) (l.2.1 ∙ sym (start_twin es d))
    (Misses-back es (start es c) y c ds l.2.2 a.1.0 (λ e. m.1.0 (sym e))))

-- lists that miss the end of a way and are disjoint from it behind its first dart are disjoint from the way back
Disjoint-back : (es : List (ℕ × ℕ)) (y d : ℕ) (ps ds : List ℕ) → Leads es (finish es d) ds y → Disjoint es ps ds
    → Misses es y ps → Disjoint es ps (back (d ∷ ds))
Disjoint-back es y d [] ds l j m = tt
Disjoint-back es y d (p ∷ ps) ds l j m =
    (Misses-back es (start es p) y d ds l j.0 (λ e. m.0 (sym e)), Disjoint-back es y d ps ds l j.1 m.1)

-- an edge of the way is one of the way back
HasEdge-back : (e : ℕ) (ds : List ℕ) → HasEdge ds e → HasEdge (back ds) e
HasEdge-back e [] h = absurd (omega (arith, h.1))
HasEdge-back e (d ∷ ds) h = last h.0 h.1 h.2 (λ g. HasEdge-back e ds g)
  where
    -- the edge of some dart is of the way back: that of the first dart at its end, the others before
    last : (i : ℕ) → i < length (d ∷ ds) → get_or (d ∷ ds) i 0 / 2 ≡ e → (HasEdge ds e → HasEdge (back ds) e)
        → HasEdge (back ds ++ twin d ∷ []) e
    last zero lt f rest = (
      length (back ds),
      omega (arith, length_push (back ds) (twin d)),
      ap (λ (k : ℕ). k / 2)
          (get_or_push (back ds) (twin d) 0 (length (back ds)) refl) ∙ half_twin d ∙ f,
    )
    last (suc i) lt f rest = HasEdge-left e (back ds) (twin d ∷ []) (rest (i, omega arith, f))

-- a simple cycle as a way from a vertex back to it
pub record Ring (es : List (ℕ × ℕ)) (v : ℕ) (ds : List ℕ) : Type 0 where
  pub leads : Leads es v ds v
  pub apart : Apart es ds
  pub two : 2 ≤ length ds
  pub differ : length ds ≡ 2 → get_or ds 0 0 / 2 ≡ get_or ds 1 0 / 2 → ⊥

-- a ring is a simple cycle
pub Ring-cycle : (es : List (ℕ × ℕ)) (v : ℕ) (ds : List ℕ) → Ring es v ds → IsSimpleCycle es ds
Ring-cycle es v ds r = cycle_of es v ds r.leads r.apart r.two r.differ

-- darts of which none starts at z miss it
misses_from : (es : List (ℕ × ℕ)) (z : ℕ) (ds : List ℕ) → ((j : ℕ) → j < length ds → start es (get_or ds j 0) ≡ z → ⊥)
    → Misses es z ds
misses_from es z [] no_start = tt
misses_from es z (d ∷ ds) no_start =
    (no_start 0 (omega arith), misses_from es z ds (λ j lt. no_start (suc j) (omega arith)))

-- darts of which the later do not start where the earlier do start apart
apart_from : (es : List (ℕ × ℕ)) (ds : List ℕ)
    → ((i j : ℕ) → i < j → j < length ds → start es (get_or ds j 0) ≡ start es (get_or ds i 0) → ⊥) → Apart es ds
apart_from es [] differ = tt
apart_from es (d ∷ ds) differ = (
  misses_from es (start es d) ds (λ j lt. differ 0 (suc j) (omega arith) (omega arith)),
  apart_from es ds
      (λ i j l lt. differ (suc i) (suc j) (omega arith) (omega arith)),
)

-- darts of which each ends where the next starts lead from the start of the first to the end of the last
leads_from : (es : List (ℕ × ℕ)) (d : ℕ) (ds : List ℕ)
    → ((i : ℕ) → i < length (d ∷ ds) → get_or (d ∷ ds) i 0 < 2 * length es)
    → ((i : ℕ) → suc i < length (d ∷ ds) → finish es (get_or (d ∷ ds) i 0) ≡ start es (get_or (d ∷ ds) (suc i) 0))
    → Leads es (start es d) (d ∷ ds) (finish es (get_or (d ∷ ds) (length ds) 0))
leads_from es d [] within linked = (within 0 (omega arith), refl, refl)
leads_from es d (c ∷ ds) within linked = (
  within 0 (omega arith),
  refl,
  subst (λ (z : ℕ). Leads es z (c ∷ ds) (finish es (get_or (c ∷ ds) (length ds) 0)))
      (sym (linked 0 (omega arith)))
      (leads_from es c ds (λ i lt. within (suc i) (omega arith)) (λ i lt. linked (suc i) (omega arith))),
)

-- a simple cycle leads from the start of its first dart back to it
ring_leads : (es : List (ℕ × ℕ)) (ds : List ℕ) → IsSimpleCycle es ds
    → Leads es (start es (get_or ds 0 0)) ds (start es (get_or ds 0 0))
ring_leads es [] cy = absurd (omega (arith, cy.at_least_two))
ring_leads es (d ∷ ds) cy =
    let last : length ds ≡ length (d ∷ ds) - 1 = omega arith in
    subst (Leads es (start es d) (d ∷ ds)) (ap (λ (k : ℕ). finish es (get_or (d ∷ ds) k 0)) last ∙ cy.closed)
    (leads_from es d ds cy.within
    (λ i lt. let next : i + 1 ≡ suc i = omega arith in cy.linked i (omega arith)
    ∙ ap (λ (k : ℕ). start es (get_or (d ∷ ds) k 0)) next))

-- a simple cycle, begun at another of its darts
pub ring_at : (es : List (ℕ × ℕ)) (ds : List ℕ) (a : ℕ) → IsSimpleCycle es ds → a < length ds
    → (turned : List ℕ) × Ring es (start es (get_or ds a 0)) turned × ((e : ℕ) → HasEdge ds e → HasEdge turned e)
ring_at es ds a cy lt = (qs ++ ps, ring, moved)
  where
    -- the darts before the one that the cycle is to begin at
    ps : List ℕ
    ps = take a ds

    -- the darts from that one on
    qs : List ℕ
    qs = drop a ds

    -- the cycle is the one part and then the other
    whole : ds ≡ ps ++ qs
    whole = sym (take-append-drop a ds)

    -- the vertex that the cycle started at
    x : ℕ
    x = start es (get_or ds 0 0)

    -- the vertex between the two parts, with a way to it and one from it
    parts : (y : ℕ) × Leads es x ps y × Leads es y qs x
    parts = Leads-parts es x x ps qs (subst (λ (fs : List ℕ). Leads es x fs x) whole (ring_leads es ds cy))

    -- how long the first part is
    size_ps : length ps ≡ a
    size_ps = length-take-le a ds (omega arith)

    -- how long the second part is
    size_qs : length qs ≡ length ds - a
    size_qs = length-drop a ds

    -- the vertex between the parts is the start of the dart that the cycle is to begin at
    at : parts.0 ≡ start es (get_or ds a 0)
    at = sym (Leads-first es parts.0 x qs parts.2 (omega (arith, size_qs)))
        ∙ ap (start es) (get_or-drop a ds 0 0 ∙ ap (λ (k : ℕ). get_or ds k 0) (omega arith))

    -- each dart of the turned list is one of the cycle, at the place turned by a
    same : (i : ℕ) → i < length (qs ++ ps)
        → (j : ℕ) × (j < length ds) × (get_or (qs ++ ps) i 0 ≡ get_or ds j 0)
        × (((i < length qs) × (j ≡ a + i)) ⊎ ((length qs ≤ i) × (j + length qs ≡ i)))
    same i lti = ⊎_elim
        (λ l. (a + i, omega (arith, size_qs), get_or_append_left qs ps 0 i l ∙ get_or-drop a ds i 0, inl (l, refl)))
        (λ g. (
          i - length qs,
          omega (arith, size_qs, size_ps, length-append qs ps),
          get_or-append_right qs ps
              (length qs) i 0 refl g ∙ get_or-take a ds (i - length qs) 0
              (omega (arith, size_qs, size_ps, length-append qs ps)),
          inr (g, omega arith),
        ))
        (cases_lt i (length qs))

    -- the parts start apart and are disjoint
    apart : Apart es ps × Apart es qs × Disjoint es ps qs
    apart = Apart-parts es ps qs (subst (Apart es) whole
        (apart_from es ds (λ i j l ltj e. let f : j ≡ i = cy.vertices_differ j i ltj (omega arith) e in omega arith)))

    -- where the turned list has two darts, they are of two edges
    differ : length (qs ++ ps) ≡ 2 → get_or (qs ++ ps) 0 0 / 2 ≡ get_or (qs ++ ps) 1 0 / 2 → ⊥
    differ n e =
        let one = same 0 (omega arith) in
        let two = same 1 (omega arith) in
        let f : one.0 ≡ two.0 = cy.edges_differ one.0 two.0 one.1 two.1
        (ap (λ (k : ℕ). k / 2) (sym one.2) ∙ e ∙ ap (λ (k : ℕ). k / 2) two.2) in
        omega (arith, one.3, two.3, size_qs, size_ps, length-append qs ps)

    -- the turned list is a ring
    ring : Ring es (start es (get_or ds a 0)) (qs ++ ps)
    ring = record {
      leads = subst (λ (y : ℕ). Leads es y (qs ++ ps) y) at (Leads-append es parts.0 x parts.0 qs ps parts.2 parts.1);
      apart = Apart-append es qs ps apart.1 apart.0 (Disjoint-sym es ps qs apart.2);
      two = omega (arith, length-append qs ps, size_qs, size_ps, cy.at_least_two);
      differ = differ;
    }

    -- each edge of the cycle is one of the turned list
    moved : (e : ℕ) → HasEdge ds e → HasEdge (qs ++ ps) e
    moved e h = ⊎_elim (λ l. HasEdge-right e qs ps l) (λ r. HasEdge-left e qs ps r)
        (HasEdge-cases e ps qs (subst (λ (fs : List ℕ). HasEdge fs e) whole h))

-- w is on the way from x to y: the way is cut at w
pub record IsOn (es : List (ℕ × ℕ)) (w x y : ℕ) (ds : List ℕ) : Type 0 where
  pub front : List ℕ
  pub rest : List ℕ
  pub whole : ds ≡ front ++ rest
  pub there : Leads es x front w
  pub on : Leads es w rest y
  pub some : 0 < length rest

-- a dart of the way starts at w, or none does
pub on_cases : (es : List (ℕ × ℕ)) (w x y : ℕ) (ds : List ℕ) → Leads es x ds y → IsOn es w x y ds ⊎ Misses es w ds
on_cases es w x y [] l = inr tt
on_cases es w x y (d ∷ ds) l =
    ⊎_elim
    (λ e. inl (record {
      front = [];
      rest = d ∷ ds;
      whole = refl;
      there = sym l.1 ∙ e;
      on = (l.0, e, l.2);
      some =
          omega arith;
    }))
    (λ ne. ⊎_elim
    (λ h. inl (record {
      front = d ∷ h.front;
      rest = h.rest;
      whole = ap (λ (fs : List ℕ). d ∷ fs) h.whole;
      there =
          (l.0, l.1, h.there);
      on = h.on;
      some = h.some;
    }))
    (λ m. inr (ne, m))
    (on_cases es w (finish es d) y ds l.2))
    (cases_eq (start es d) w)

-- a way that starts at a vertex does not miss it
starts_not : (es : List (ℕ × ℕ)) (w y : ℕ) (ds : List ℕ) → Leads es w ds y → 0 < length ds → Misses es w ds → ⊥
starts_not es w y [] l some m = omega arith
starts_not es w y (d ∷ ds) l some m = m.0 l.1

-- what is on the way is not missed
on_not : (es : List (ℕ × ℕ)) (w x y : ℕ) (ds : List ℕ) → IsOn es w x y ds → Misses es w ds → ⊥
on_not es w x y ds h m = starts_not es w y h.rest h.on h.some
    (Misses-parts es w h.front h.rest (subst (Misses es w) h.whole m)).1

-- a simple path from y to a vertex of the ring other than v, that meets the ring only there
pub record HitPath (es : List (ℕ × ℕ)) (v y : ℕ) (ring : List ℕ) : Type 0 where
  pub hit : ℕ
  pub darts : List ℕ
  pub leads : Leads es y darts hit
  pub apart : Apart es darts
  pub ends : Misses es hit darts
  pub off : Disjoint es darts ring
  pub on : IsOn es hit v v ring
  pub other : hit ≡ v → ⊥

-- a path to the ring from w on, where w is on the path, or w is not on it
cut_hit : (es : List (ℕ × ℕ)) (v w x hit : ℕ) (ring ds : List ℕ) → Leads es x ds hit → Apart es ds → Misses es hit ds
    → Disjoint es ds ring → IsOn es hit v v ring → (hit ≡ v → ⊥) → HitPath es v w ring ⊎ Misses es w ds
cut_hit es v w x hit ring [] l a m j on ne = inr tt
cut_hit es v w x hit ring (d ∷ ds) l a m j on ne =
    ⊎_elim
    (λ e. inl (record {
      hit = hit;
      darts = d ∷ ds;
      leads = (l.0, e, l.2);
      apart = a;
      ends = m;
      off = j;
      on = on;
      other =
          ne;
    }))
    (λ nd. ⊎_elim (λ p. inl p) (λ r. inr (nd, r)) (cut_hit es v w (finish es d) hit ring ds l.2 a.1 m.1 j.1 on ne))
    (cases_eq (start es d) w)

-- a dart before a path to the ring
before_hit : (es : List (ℕ × ℕ)) (v w x d : ℕ) (ring : List ℕ) → Leads es v ring v → HitPath es v x ring
    → d < 2 * length es → start es d ≡ w → finish es d ≡ x → (w ≡ v → ⊥) → HitPath es v w ring
before_hit es v w x d ring l p lt from to ne =
    ⊎_elim
    (λ on. record { hit = w; darts = []; leads = refl; apart = tt; ends = tt; off = tt; on = on; other = ne })
    (λ missed. ⊎_elim
    (λ q. q)
    (λ r. record {
      hit = p.hit;
      darts = d ∷ p.darts;
      leads = (lt, from, subst (λ (z : ℕ). Leads es z p.darts p.hit) (sym to) p.leads);
      apart = (subst (λ (z : ℕ). Misses es z p.darts) (sym from) r, p.apart);
      ends = (λ e. on_not es p.hit v v ring p.on (subst (λ (z : ℕ). Misses es z ring) (sym from ∙ e) missed), p.ends);
      off = (subst (λ (z : ℕ). Misses es z ring) (sym from) missed, p.off);
      on = p.on;
      other = p.other;
    })
    (cut_hit es v w x p.hit ring p.darts p.leads p.apart p.ends p.off p.on p.other))
    (on_cases es w v v ring l)

-- from a vertex that is connected without v to a vertex of the ring
pub hit_path : (es : List (ℕ × ℕ)) (v x y : ℕ) (ring : List ℕ) → Leads es v ring v → IsOn es x v v ring → (x ≡ v → ⊥)
    → Connected (without_vertex v es) x y → HitPath es v y ring
hit_path es v x y ring l on ne here =
    record { hit = x; darts = []; leads = refl; apart = tt; ends = tt; off = tt; on = on; other = ne }
hit_path es v x y ring l on ne (step {y = z} c e k j) =
    let kept = kept_pair (avoids v) es e k in
    let d : (d : ℕ) × (d < 2 * length es) × (start es d ≡ y) × (finish es d ≡ z) =
    dart_of es e y z kept.0 (Joins-sym e z y j) in
    before_hit es v y z d.0 ring l (hit_path es v x z ring l on ne c) d.1 d.2 d.3 (avoided v e z y kept.1 j)

-- an end of an edge of a simple cycle is the start of one of its darts
end_at : (es : List (ℕ × ℕ)) (ds : List ℕ) (v e x : ℕ) → IsSimpleCycle es ds → HasEdge ds e
    → Joins (get_or es e (0, 0)) v x → (a : ℕ) × (a < length ds) × (start es (get_or ds a 0) ≡ v)
end_at es ds v e x cy h j =
    ⊎_elim
    (λ s. (h.0, h.1, s.0))
    (λ t. ⊎_elim
    (λ last. let k_is : length ds - 1 ≡ h.0 = omega arith in
    (0, omega (arith, h.1), sym cy.closed ∙ ap (λ (k : ℕ). finish es (get_or ds k 0)) k_is ∙ t.0))
    (λ more. (h.0 + 1, omega (arith, h.1), sym (cy.linked h.0 (omega (arith, h.1))) ∙ t.0))
    (cases_eq (suc h.0) (length ds)))
    (Joins_cases (get_or es e (0, 0)) (start es (get_or ds h.0 0)) (finish es (get_or ds h.0 0)) v x
    (subst (λ (k : ℕ). Joins (get_or es k (0, 0)) (start es (get_or ds h.0 0)) (finish es (get_or ds h.0 0))) h.2
    (dart_joins es (get_or ds h.0 0) (cy.within h.0 h.1))) j)

-- a ring has an edge or not
edge_cases : (e : ℕ) (ds : List ℕ) → HasEdge ds e ⊎ (HasEdge ds e → ⊥)
edge_cases e [] = inr (λ h. omega (arith, h.1))
edge_cases e (d ∷ ds) =
    ⊎_elim
    (λ f. inl (0, omega arith, f))
    (λ nf. ⊎_elim (λ h. inl (HasEdge-right e (d ∷ []) ds h))
    (λ none. inr (λ h. ⊎_elim (λ l. nf (single l.0 l.1 l.2)) none (HasEdge-cases e (d ∷ []) ds h)))
    (edge_cases e ds))
    (cases_eq (d / 2) e)
  where
    -- the edge of a single dart is that of the first
    single : (i : ℕ) → i < length (d ∷ []) → get_or (d ∷ []) i 0 / 2 ≡ e → d / 2 ≡ e
    single i lt f = let z : i ≡ 0 = omega arith in ap (λ (k : ℕ). get_or (d ∷ []) k 0 / 2) (sym z) ∙ f

-- a vertex other than the first is not reached by no dart
some_front : (es : List (ℕ × ℕ)) (v p : ℕ) (ps : List ℕ) → Leads es v ps p → (p ≡ v → ⊥) → 0 < length ps
some_front es v p [] l ne = absurd (ne (sym l))
some_front es v p (d ∷ ps) l ne = omega arith

-- the darts of the one way are not missed at the start of the other
first_missed : (es : List (ℕ × ℕ)) (x y : ℕ) (ps qs : List ℕ) → Leads es x ps y → 0 < length ps → Disjoint es ps qs
    → Misses es x qs
first_missed es x y [] qs l some j = absurd (omega arith)
first_missed es x y (p ∷ ps) qs l some j = subst (λ (z : ℕ). Misses es z qs) l.1 j.0

-- a ring with e, and a path that leaves its first vertex by another edge g and comes back to it elsewhere:
-- the path makes a ring with the part of the ring that has e
ear_ring : (es : List (ℕ × ℕ)) (v e g y d : ℕ) (ring : List ℕ) → Ring es v ring → HasEdge ring e → (HasEdge ring g → ⊥)
    → d < 2 * length es → d / 2 ≡ g → start es d ≡ v → finish es d ≡ y → HitPath es v y ring → AreInOneBlock es e g
ear_ring es v e g y d ring r he no_g lt edge from to h =
    ⊎_elim forward backward (HasEdge-cases e ps qs (subst (λ (fs : List ℕ). HasEdge fs e) h.on.whole he))
  where
    -- the ring up to the vertex that the path hits
    ps : List ℕ
    ps = h.on.front

    -- the ring from that vertex on
    qs : List ℕ
    qs = h.on.rest

    -- the dart of g and then the path to the ring
    way : List ℕ
    way = d ∷ h.darts

    -- it leads from v to the vertex of the ring
    leads : Leads es v way h.hit
    leads = (lt, from, subst (λ (z : ℕ). Leads es z h.darts h.hit) (sym to) h.leads)

    -- the ring has a dart before that vertex
    some : 0 < length ps
    some = some_front es v h.hit ps h.on.there h.other

    -- the two parts of the ring start apart and are disjoint
    ring_apart : Apart es ps × Apart es qs × Disjoint es ps qs
    ring_apart = Apart-parts es ps qs (subst (Apart es) h.on.whole r.apart)

    -- the path is disjoint from either part of the ring
    off : Disjoint es h.darts ps × Disjoint es h.darts qs
    off = Disjoint-parts es h.darts ps qs (subst (Disjoint es h.darts) h.on.whole h.off)

    -- the way starts apart
    apart : Apart es way
    apart = (
      subst (λ (z : ℕ). Misses es z h.darts) (sym from)
          (first_missed es v h.hit ps h.darts h.on.there some (Disjoint-sym es h.darts ps off.0)),
      h.apart,
    )

    -- no part of the ring has the edge g
    only : (fs : List ℕ) → HasEdge ps g ⊎ HasEdge qs g → ⊥
    only fs k = no_g (subst (λ (xs : List ℕ). HasEdge xs g) (sym h.on.whole)
        (⊎_elim (λ l. HasEdge-left g ps qs l) (λ m. HasEdge-right g ps qs m) k))

    -- where e is in the first part, that part and the way back make a ring with e and g
    forward : HasEdge ps e → AreInOneBlock es e g
    forward k = inr (
      ps ++ back way,
      cycle_of es v (ps ++ back way)
          (Leads-append es v h.hit v ps (back way) h.on.there (Leads-back es v h.hit way leads))
          (Apart-append es ps (back way) ring_apart.0
          (Apart-back es v h.hit way leads apart (λ f. h.other (sym f ∙ from), h.ends))
          (Disjoint-back es h.hit d ps h.darts leads.2 (Disjoint-sym es h.darts ps off.0)
          (first_missed es h.hit v qs ps h.on.on h.on.some (Disjoint-sym es ps qs ring_apart.2))))
          (omega (arith, some, length-append ps (back way), length_push (back h.darts) (twin d)))
          (λ n f. only ps (inl (
            0,
            some,
            ap (λ (j : ℕ). j / 2) (sym (get_or_append_left ps (back way) 0 0 some)) ∙ f
                ∙ ap (λ (j : ℕ). j / 2) (get_or-append_right ps (back way) (length ps) 1 0 refl
                (omega (arith, length-append ps (back way), length_push (back h.darts) (twin d)))
                ∙ ap (λ (j : ℕ). get_or (back way) j 0)
                (omega (arith, some, length-append ps (back way), length_push (back h.darts) (twin d)))
                ∙ get_or_push (back h.darts) (twin d) 0 0
                (omega (arith, some, length-append ps (back way), length_push (back h.darts) (twin d)))) ∙ half_twin d
                ∙ edge,
          ))),
      HasEdge-left e ps (back way) k,
      HasEdge-right g ps (back way) (HasEdge-back g way (0, omega arith, edge)),
    )

    -- where e is in the second part, the way and that part make a ring with e and g
    backward : HasEdge qs e → AreInOneBlock es e g
    backward k = inr (
      way ++ qs,
      cycle_of es v (way ++ qs)
          (Leads-append es v h.hit v way qs leads h.on.on)
          (Apart-append es way qs apart ring_apart.1 (
            subst (λ (z : ℕ). Misses es z qs) (sym from)
                (first_missed es v h.hit ps qs h.on.there some ring_apart.2),
            off.1,
          ))
          (omega (arith, h.on.some, length-append way qs))
          (λ n f. only qs (inr (
            0,
            h.on.some,
            ap (λ (j : ℕ). j / 2)
                (sym (get_or-append_right h.darts qs (length h.darts) 0 0 refl
                (omega (arith, h.on.some, length-append h.darts qs)) ∙ ap (λ (j : ℕ). get_or qs j 0) (omega arith)))
                ∙ sym f ∙ edge,
          ))),
      HasEdge-right e way qs k,
      HasEdge-left g way qs (0, omega arith, edge),
    )

-- an edge that is in one block with f is in one block with each edge g that shares a vertex v with f,
-- where the other ends of f and g are connected without v
pub block_step : (es : List (ℕ × ℕ)) (v e f g x y : ℕ) → f < length es → g < length es → Joins (get_or es f (0, 0)) v x
    → Joins (get_or es g (0, 0)) v y → (x ≡ v → ⊥) → (y ≡ v → ⊥) → AreInOneBlock es e f
    → labels (without_vertex v es) x ≡ labels (without_vertex v es) y → AreInOneBlock es e g
block_step es v e f g x y ltf ltg jf jg nex ney block same =
    ⊎_elim
    (λ e_is. subst (λ (k : ℕ). AreInOneBlock es k g) (sym e_is)
    ((one_block_at es v f g x y ltf ltg jf jg nex ney).1 same))
    (λ q. on_cycle q.0 q.1 q.2 q.3)
    block
  where
    -- where e and f lie on a simple cycle, g is in one block with e
    on_cycle : (ds : List ℕ) → IsSimpleCycle es ds → HasEdge ds e → HasEdge ds f → AreInOneBlock es e g
    on_cycle ds cy he hf =
        let a : (a : ℕ) × (a < length ds) × (start es (get_or ds a 0) ≡ v) = end_at es ds v f x cy hf jf in
        let t : (turned : List ℕ) × Ring es
        (start es (get_or ds a.0 0)) turned × ((k : ℕ) → HasEdge ds k → HasEdge turned k) =
        ring_at es ds a.0 cy a.1 in
        let r : Ring es v t.0 = subst (λ (z : ℕ). Ring es z t.0) a.2 t.1 in
        let ring : IsSimpleCycle es t.0 = Ring-cycle es v t.0 r in
        let b : (b : ℕ) × (b < length t.0) × (start es (get_or t.0 b 0) ≡ x) =
        end_at es t.0 x f v ring (t.2 f hf) (Joins-sym (get_or es f (0, 0)) v x jf) in
        let d : (d : ℕ) × (d < 2 * length es) × (d / 2 ≡ g) × (start es d ≡ v) × (finish es d ≡ y) =
        dart_at es g v y ltg jg in
        ⊎_elim
        (λ has. inr (t.0, ring, t.2 e he, has))
        (λ lacks. ⊎_elim
        (λ on. ear_ring es v e g y d.0 t.0 r (t.2 e he) lacks d.1 d.2 d.3 d.4
        (hit_path es v x y t.0 r.leads on nex (connected_labels (without_vertex v es) x y same)))
        (λ missed. absurd (Misses_at es x t.0 b.0 missed b.1 b.2))
        (on_cases es x v v t.0 r.leads))
        (edge_cases g t.0)
