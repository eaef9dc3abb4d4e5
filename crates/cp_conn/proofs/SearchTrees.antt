-- Search trees of biconnected graphs.
use Rattle.std.proofs.Common.{◌≡◌, ◌≢◌, ℕ, ◌*◌, ◌/◌, ◌<◌, ◌≤◌, ◌⊎◌, List, [], ◌∷◌, ◌++◌, length, get_or, sym, refl, ap, ◌∙◌, subst, inl, inr, ⊎_elim, arith}
use Rattle.std.proofs.lemmas.Bool.{cases_eq, cases_lt}
use Rattle.std.proofs.lemmas.List.{get_or-replicate, get_or_default}
use Rattle.cp_base.specs.Graphs.{AreWithin}
use Rattle.cp_orbits.specs.Connected.{Joins, Connected, here, step}
use Rattle.cp_lists.proofs.Counting.{count_none}
use Rattle.cp_orbits.proofs.ClassLabels.{Connected-more}
use Rattle.cp_conn.specs.Darts.{start, finish, AreChained}
use Rattle.cp_conn.specs.CutVertex.{avoids, without_vertex, AreBiconnected, IsNeighbour}
use Rattle.cp_conn.specs.Search.{is_unmet}
use Rattle.cp_conn.specs.SearchForest.{Forest, no_forest, with_vertex, Above, itself, child, Hangs, IsSearchForest}
use Rattle.cp_conn.specs.LowPoints.{AreLowPoints}
use Rattle.cp_conn.specs.Deepening.{IsGrown, StandsAt, Rests, IsFurther}
use Rattle.cp_conn.specs.SearchTree.{IsSearchTree}
use Rattle.cp_conn.proofs.DartChains.{dart_of, dart_joins, Contains-at, Joins-sym, start_within, finish_within, within_joined}
use Rattle.cp_conn.proofs.Searching.{unmet_false}
use Rattle.cp_conn.proofs.CutVertices.{kept_pair, avoided}
use Rattle.cp_conn.proofs.Forests.{above_up, Above-trans, above_both, above_root, above_number, Branch, branch, low_above}
use Rattle.cp_conn.proofs.Deepening.{Meets, set_at, set_other, grown_more, above_grown, new_met, followed_grown, rest_begins, begin_at}

-- the search goes on at a new vertex that hangs by an edge below the one that it stands at
pub stand_child : (es : List (ℕ × ℕ)) (n : ℕ) (forest : Forest) (next : List ℕ) (now v e : ℕ)
    (larger : Forest) → AreWithin n es → StandsAt es n forest next now → v < n
    → n ≤ get_or forest.number v 0 → e < length es → Joins (get_or es e (0, 0)) v now
    → larger ≡ with_vertex forest v now e
    → StandsAt es n larger next v
stand_child es n forest next now v e larger w s lt new lte j made = record {
  grown = grown_more es n forest v now e larger m;
  followed = followed_grown es n forest v now e larger next w m s.followed;
  within = lt;
  here = new_met es n forest v now e larger m;
  done = λ u ltu mu. ⊎_elim
      (λ q. inl (subst (Above larger u) q itself))
      (λ ne. ⊎_elim
      (λ i. inl (child (subst (Above larger u) (sym parent)
      (above_grown es n forest v now e larger u now m s.within s.here i))))
      (λ z. inr z)
      (s.done u ltu (omega (
        arith,
        mu,
        set_other forest.number larger.number v (length forest.order) u
            (ap (λ (g : Forest). g.number) made) ne,
      ))))
      (cases_eq u v);
}
  where
    -- v is met, and hangs by edge e below the vertex now
    m : Meets es n forest v now e larger
    m = record {
      grown = s.grown;
      within = lt;
      new = new;
      hangs = inr (s.within, s.here, lte, j);
      made = made;
    }

    -- the parent of v is the vertex now
    parent : get_or larger.parent v 0 ≡ now
    parent = set_at forest.parent larger.parent v now v (ap (λ (g : Forest). g.parent) made)
        (omega (arith, lt, s.grown.parent_each)) refl

-- what a search that rests has met goes on along connection
pub connected_met : (es : List (ℕ × ℕ)) (n : ℕ) (forest : Forest) (next : List ℕ) (s v : ℕ) → AreWithin n es
    → Rests es n forest next → s < n → get_or forest.number s 0 < n → Connected es s v
    → (v < n) × (get_or forest.number v 0 < n)
connected_met es n forest next s v w r lt met here = (lt, met)
connected_met es n forest next s v w r lt met (step {y = y} c e k j) =
    let h = connected_met es n forest next s y w r lt met c in
    let d = dart_of es e y v k j in
    let m = r.followed.met d.0 d.1 (omega (arith, r.done y h.0 h.1, ap (λ (z : ℕ). get_or next z 0) d.2)) in (
      subst (λ (z : ℕ). z < n) d.3 (finish_within n es d.0 w d.1),
      subst
          (λ (z : ℕ). get_or forest.number z 0 < n) d.3 m.1,
    )

-- all that is connected to a root is below it
over_all : (es : List (ℕ × ℕ)) (n : ℕ) (forest : Forest) (s v : ℕ) → IsSearchForest es n forest
    → get_or forest.parent s 0 ≡ s → Connected es s v → Above forest s v
over_all es n forest s v f root here = itself
over_all es n forest s v f root (step {y = y} c e k j) =
    let i : Above forest s y = over_all es n forest s y f root c in
    let d = dart_of es e y v k j in
    ⊎_elim
    (λ down. Above-trans forest s y v i
    (subst (Above forest y) d.3 (subst (λ (z : ℕ). Above forest z (finish es d.0)) d.2 down)))
    (λ over. ⊎_elim
    (λ l. l)
    (λ m. subst (Above forest s) (sym (above_root forest v s m root)) itself)
    (above_both forest s v y i
    (subst (Above forest v) d.2 (subst (λ (z : ℕ). Above forest z (start es d.0)) d.3 over))))
    (f.upright d.0 d.1)

-- a search forest of a biconnected graph whose first two vertices are s and t, with its low points
pub record Rooted (es : List (ℕ × ℕ)) (n : ℕ) (forest : Forest) (low : List ℕ) (s t : ℕ) : Type 0 where
  pub within : AreWithin n es
  pub bi : AreBiconnected n es
  pub joined : IsNeighbour es s t
  pub grown : IsGrown es n forest
  pub met : (v : ℕ) → v < n → get_or forest.number v 0 < n
  pub searched : IsSearchForest es n forest
  pub points : AreLowPoints es n forest low
  pub first : get_or forest.order 0 0 ≡ s
  pub second : get_or forest.order 1 0 ≡ t

-- the two ends of an edge are vertices
pub ends_below : (es : List (ℕ × ℕ)) (n s t : ℕ) → AreWithin n es → IsNeighbour es s t → (s < n) × (t < n)
ends_below es n s t w j = (
  within_joined n es j.pair t s w j.contained
      (Joins-sym j.pair s t j.joined),
  within_joined n es j.pair s t w j.contained j.joined,
)

-- in a biconnected graph with an edge all vertices are connected
pub connected_all : (es : List (ℕ × ℕ)) (n s t v : ℕ) → AreWithin n es → AreBiconnected n es → IsNeighbour es s t
    → v < n → Connected es s v
connected_all es n s t v w bi j lt =
    ⊎_elim
    (λ e. subst (Connected es s) (sym e) (step here j.pair j.contained j.joined))
    (λ ne. Connected-more (without_vertex t es) es s v (λ e c. (kept_pair (avoids t) es e c).0)
    (bi t s v (ends_below es n s t w j).0 lt (λ e. j.other (sym e)) ne))
    (cases_eq v t)

-- where all vertices were met, the order has as many places as there are vertices
order_length : (es : List (ℕ × ℕ)) (n : ℕ) (forest : Forest) → IsGrown es n forest
    → ((v : ℕ) → v < n → get_or forest.number v 0 < n) → length forest.order ≡ n
order_length es n forest g met =
    omega (arith, g.all, count_none n (is_unmet n forest.number) (λ v lt. unmet_false n forest.number v (met v lt)))

-- the vertices below a vertex whose low point is not before its parent are not connected to others without the parent
branch_closed : (es : List (ℕ × ℕ)) (n : ℕ) (forest : Forest) (low : List ℕ) (v z : ℕ) → AreWithin n es
    → IsSearchForest es n forest → AreLowPoints es n forest low → v < n → get_or forest.parent v 0 < n
    → get_or forest.number (get_or forest.parent v 0) 0 ≤ get_or low v 0
    → Connected (without_vertex (get_or forest.parent v 0) es) v z → (z < n) × Above forest v z
branch_closed es n forest low v z w f l lt ltp high here = (lt, itself)
branch_closed es n forest low v z w f l lt ltp high (step {y = y} c e k j) =
    let h = branch_closed es n forest low v y w f l lt ltp high c in
    let kept = kept_pair (avoids (get_or forest.parent v 0)) es e k in
    let d = dart_of es e y z kept.0 j in
    let ltz : z < n = subst (λ (x : ℕ). x < n) d.3 (finish_within n es d.0 w d.1) in
    let seen : get_or low v 0 ≤ get_or forest.number z 0 =
    omega (
      arith,
      low_above es n forest low v y f.placed l h.0 h.1,
      l.darts d.0 d.1,
      ap
          (λ (x : ℕ). get_or low x 0) d.2,
      ap (λ (x : ℕ). get_or forest.number x 0) d.3,
    ) in (
      ltz,
      ⊎_elim
          (λ down. Above-trans forest v y z h.1
          (subst (Above forest y) d.3 (subst (λ (x : ℕ). Above forest x (finish es d.0)) d.2 down)))
          (λ over. ⊎_elim
          (λ i. i)
          (λ i. ⊎_elim
          (λ q. subst (Above forest v) (sym q) itself)
          (λ i2. ⊎_elim
          (λ q. absurd (avoided (get_or forest.parent v 0) e y z kept.1 j q))
          (λ less. absurd (omega (arith, less.1, high, seen)))
          (above_number es n forest z (get_or forest.parent v 0) f.placed ltp i2))
          (above_up forest z v i))
          (above_both forest v z y h.1
          (subst (Above forest z) d.2 (subst (λ (x : ℕ). Above forest x (start es d.0)) d.3 over))))
          (f.upright d.0 d.1),
    )

-- the edge that joins two neighbours
pub neighbour_edge : (es : List (ℕ × ℕ)) (x y : ℕ) → IsNeighbour es x y
    → (e : ℕ) × (e < length es) × Joins (get_or es e (0, 0)) x y
neighbour_edge es x y j = (
  j.contained.0,
  j.contained.1,
  subst (λ (p : ℕ × ℕ). Joins p x y)
      (sym (get_or_default es j.contained.0 (0, 0) j.pair j.contained.1 ∙ j.contained.2)) j.joined,
)

-- a search that has met s, and t below it, stands at t
pub begin_two : (es : List (ℕ × ℕ)) (n s t e : ℕ)
    (forest : Forest) (next lower : List ℕ) (larger largest : Forest) → AreWithin n es
    → AreChained n es (2 * length es) next lower → IsNeighbour es s t → e < length es → Joins (get_or es e (0, 0)) s t
    → forest ≡ no_forest n → larger ≡ with_vertex forest s s 0 → largest ≡ with_vertex larger t s e
    → StandsAt es n largest next t
begin_two es n s t e forest next lower larger largest w ch j lte ej
    none once twice =
    stand_child es n larger next s t e largest w
    (begin_at es n forest next s larger w
    (rest_begins es n forest next lower w ch none) below.0
    (omega (arith, unmet s below.0)) once).0
    below.1 (omega (
      arith,
      set_other forest.number larger.number s (length forest.order) t
          (ap (λ (g : Forest). g.number) once) j.other,
      unmet t below.1,
    )) lte
    (Joins-sym (get_or es e (0, 0)) s t ej) twice
  where
    -- s and t are vertices
    below : (s < n) × (t < n)
    below = ends_below es n s t w j

    -- at the start no vertex has a number below n
    unmet : (v : ℕ) → v < n → get_or forest.number v 0 ≡ n
    unmet v lt = ap (λ (g : Forest). get_or g.number v 0) none ∙ get_or-replicate {A = ℕ} n v n 0 lt

-- a search that rests and has s first in its order has met all vertices that are connected to s
pub all_met_at_rest : (es : List (ℕ × ℕ)) (m n : ℕ) (forest : Forest) (next : List ℕ) (s t : ℕ) → m ≡ n
    → AreWithin n es → Rests es m forest next → IsNeighbour es s t → ((v : ℕ) → v < n → Connected es s v)
    → get_or forest.order 0 0 ≡ s → 0 < length forest.order → (v : ℕ) → v < n → get_or forest.number v 0 < n
all_met_at_rest es m n forest next s t size w r j connected first some v lt =
    let here : Rests es n forest next = subst (λ (k : ℕ). Rests es k forest next) size r in
    let at : get_or forest.number s 0 ≡ 0 = ap (λ (k : ℕ). get_or forest.number k 0) (sym first)
    ∙ (here.grown.numbered 0 some).1 in
    (connected_met es n forest next s v w here (ends_below es n s t w j).0 (omega (arith, at, lt))
    (connected v lt)).1

-- what holds of the places of the vertices
places_in : (es : List (ℕ × ℕ)) (n : ℕ) (forest : Forest) (low : List ℕ) (s t : ℕ)
    → Rooted es n forest low s t
    → (length forest.order ≡ n) × (2 ≤ n) × (get_or forest.number s 0 ≡ 0) × (get_or forest.number t 0 ≡ 1)
places_in es n forest low s t r =
    let size : length forest.order ≡ n = order_length es n forest r.grown r.met in
    let b = ends_below es n s t r.within r.joined in
    let differ : s ≡ t → ⊥ = λ e. r.joined.other (sym e) in
    let two : 2 ≤ n = omega (arith, b.0, b.1) in (
      size,
      two,
      ap (λ (k : ℕ). get_or forest.number k 0) (sym r.first)
          ∙ (r.grown.numbered 0 (omega (arith, size, two))).1,
      ap (λ (k : ℕ). get_or forest.number k 0) (sym r.second)
          ∙ (r.grown.numbered 1 (omega (arith, size, two))).1,
    )

-- s is the root
root_of : (es : List (ℕ × ℕ)) (n : ℕ) (forest : Forest) (low : List ℕ) (s t : ℕ)
    → Rooted es n forest low s t → get_or forest.parent s 0 ≡ s
root_of es n forest low s t r =
    let p = places_in es n forest low s t r in
    ⊎_elim (λ e. e) (λ h. absurd (omega (arith, h.lower, p.2)))
    (r.searched.placed s (ends_below es n s t r.within r.joined).0)

-- s is above all vertices
over : (es : List (ℕ × ℕ)) (n : ℕ) (forest : Forest) (low : List ℕ) (s t v : ℕ)
    → Rooted es n forest low s t → v < n → Above forest s v
over es n forest low s t v r lt =
    over_all es n forest s v r.searched (root_of es n forest low s t r)
    (connected_all es n s t v r.within r.bi r.joined lt)

-- each other vertex hangs below one of lower number
hangs : (es : List (ℕ × ℕ)) (n : ℕ) (forest : Forest) (low : List ℕ) (s t v : ℕ)
    → Rooted es n forest low s t → v < n → v ≢ s → Hangs es n forest v
hangs es n forest low s t v r lt ne =
    ⊎_elim (λ root. absurd (ne (sym (above_root forest s v (over es n forest low s t v r lt) root)))) (λ h. h)
    (r.searched.placed v lt)

-- a vertex of number 0 is s
at_zero : (es : List (ℕ × ℕ)) (n : ℕ) (forest : Forest) (low : List ℕ) (s t v : ℕ)
    → Rooted es n forest low s t → v < n → get_or forest.number v 0 ≡ 0 → v ≡ s
at_zero es n forest low s t v r lt e = sym (r.grown.ordered v lt (r.met v lt)).1
    ∙ ap (λ (k : ℕ). get_or forest.order k 0) e ∙ r.first

-- t hangs below s
second_hangs : (es : List (ℕ × ℕ)) (n : ℕ) (forest : Forest) (low : List ℕ) (s t : ℕ)
    → Rooted es n forest low s t → get_or forest.parent t 0 ≡ s
second_hangs es n forest low s t r =
    let p = places_in es n forest low s t r in
    let h = hangs es n forest low s t t r (ends_below es n s t r.within r.joined).1 r.joined.other in
    at_zero es n forest low s t (get_or forest.parent t 0) r h.within (omega (arith, h.lower, p.3))

-- the low point of a further vertex is before its parent
low_before : (es : List (ℕ × ℕ)) (n : ℕ) (forest : Forest) (low : List ℕ) (s t v : ℕ)
    → Rooted es n forest low s t → v < n → 1 < get_or forest.number v 0
    → get_or low v 0 < get_or forest.number (get_or forest.parent v 0) 0
low_before es n forest low s t v r lt late =
    ⊎_elim (λ less. less) (λ high. absurd
    (⊎_elim (λ e. other_child high e) (λ ne. elsewhere high ne) (cases_eq (get_or forest.parent v 0) s)))
    (cases_lt (get_or low v 0) (get_or forest.number (get_or forest.parent v 0) 0))
  where
    -- there is a place for each vertex, s has the place 0 and t the place 1
    p : (length forest.order ≡ n) × (2 ≤ n) × (get_or forest.number s 0 ≡ 0) × (get_or forest.number t 0 ≡ 1)
    p = places_in es n forest low s t r

    -- s and t are vertices
    below : (s < n) × (t < n)
    below = ends_below es n s t r.within r.joined

    -- v is not s, whose number is 0
    not_first : v ≢ s
    not_first e = omega (arith, late, p.2, ap (λ (k : ℕ). get_or forest.number k 0) e)

    -- v is not t, whose number is 1
    not_second : v ≢ t
    not_second e = omega (arith, late, p.3, ap (λ (k : ℕ). get_or forest.number k 0) e)

    -- v hangs below its parent
    h : Hangs es n forest v
    h = hangs es n forest low s t v r lt not_first

    -- v is not its own parent
    not_parent : v ≢ get_or forest.parent v 0
    not_parent e = omega (arith, h.lower, ap (λ (k : ℕ). get_or forest.number k 0) e)

    -- v is not above the root s
    not_over_first : Above forest v s → ⊥
    not_over_first i = not_first (above_root forest v s i (root_of es n forest low s t r))

    -- where the low point of v is not before its parent, all vertices but the parent are below v
    closed : get_or forest.number (get_or forest.parent v 0) 0 ≤ get_or low v 0 → (z : ℕ) → z < n
        → z ≢ get_or forest.parent v 0 → Above forest v z
    closed high z ltz ne = (branch_closed es n forest low v z r.within r.searched r.points lt h.within high
        (r.bi (get_or forest.parent v 0) v z lt ltz not_parent ne)).1

    -- below s that is not so, since t is no descendant of v
    other_child : get_or forest.number (get_or forest.parent v 0) 0 ≤ get_or low v 0 → get_or forest.parent v 0 ≡ s → ⊥
    other_child high e = ⊎_elim not_second
        (λ i. not_over_first (subst (Above forest v) (second_hangs es n forest low s t r) i))
        (above_up forest v t (closed high t below.1 (λ f. r.joined.other (f ∙ e))))

    -- below another vertex that is not so, since s is no descendant of v
    elsewhere : get_or forest.number (get_or forest.parent v 0) 0 ≤ get_or low v 0 → get_or forest.parent v 0 ≢ s → ⊥
    elsewhere high ne = not_over_first (closed high s below.0 (λ f. ne (sym f)))

-- the low point is at a neighbour or is that of a child
low_found : (es : List (ℕ × ℕ)) (n : ℕ) (forest : Forest) (low : List ℕ) (s t v : ℕ)
    → Rooted es n forest low s t → v < n → get_or low v 0 < get_or forest.number v 0
    → IsNeighbour es v (get_or forest.order (get_or low v 0) 0)
    ⊎ ((c : ℕ) × (c < n) × (get_or forest.number v 0 < get_or forest.number c 0) × (get_or forest.parent c 0 ≡ v)
    × (get_or low c 0 ≡ get_or low v 0))
low_found es n forest low s t v r lt less =
    let d = r.points.reached v lt less in
    let ltf : finish es d.0 < n = finish_within n es d.0 r.within d.1 in
    let lts : start es d.0 < n = start_within n es d.0 r.within d.1 in
    let at : finish es d.0 ≡ get_or forest.order (get_or low v 0) 0 =
    sym (r.grown.ordered (finish es d.0) ltf (r.met (finish es d.0) ltf)).1
    ∙ ap (λ (k : ℕ). get_or forest.order k 0) d.3 in
    ⊎_elim
    (λ e. inl (record {
      pair = get_or es (d.0 / 2) (0, 0);
      contained = Contains-at es (d.0 / 2) (omega (arith, d.1));
      joined = subst (Joins (get_or es (d.0 / 2) (0, 0)) v) at
          (subst (λ (k : ℕ). Joins (get_or es (d.0 / 2) (0, 0)) k (finish es d.0)) e (dart_joins es d.0 d.1));
      other = λ q. omega (arith, less, d.3, ap (λ (k : ℕ). get_or forest.number k 0) (at ∙ q));
    }))
    (λ ne. let b : Branch es n forest v (start es d.0) =
    branch es n forest v (start es d.0) r.searched.placed lts d.2 ne in
    inr (
      b.root,
      b.within,
      omega (arith, b.hangs.lower, ap (λ (k : ℕ). get_or forest.number k 0) b.parent),
      b.parent,
      omega (
        arith,
        low_above es n forest low b.root
            (start es d.0) r.searched.placed r.points lts b.over,
        r.points.darts d.0 d.1,
        d.3,
        r.points.rises b.root b.within,
        ap (λ (k : ℕ). get_or low k 0) b.parent,
      ),
    ))
    (cases_eq (start es d.0) v)

-- a list that has the value of each item of the order
abbrev pub IsAlong : List ℕ → List ℕ → List ℕ → Type 0
IsAlong order values along = (length along ≡ length order) × ((i : ℕ) → i < length order → get_or along i 0 ≡ get_or
    values (get_or order i 0) 0)

-- a list with the value of each item, as a program reads the order and the values
pub along_read : (order read values seen along : List ℕ) → read ≡ order → seen ≡ values → length along ≡ length read
    → ((i : ℕ) → i < length read → get_or along i 0 ≡ get_or seen (get_or read i 0) 0) → IsAlong order values along
along_read order read values seen along read_is seen_is size each =
    subst (λ (xs : List ℕ). IsAlong xs values along) read_is
    (subst (λ (ys : List ℕ). IsAlong read ys along) seen_is (size, each))

-- the tree, over the places of the vertices
pub tree_of : (es : List (ℕ × ℕ)) (n : ℕ) (forest : Forest) (low : List ℕ) (s t : ℕ) (parents ups lows : List ℕ)
    → Rooted es n forest low s t
    → IsAlong forest.order forest.parent parents → IsAlong parents forest.number ups → IsAlong forest.order low lows
    → IsSearchTree es n forest.order ups lows
tree_of es n forest low s t parents ups lows r along_p along_u along_l = record {
  two = omega (arith, p.1);
  each_once = record {
    each_passes = λ i lti. ((r.grown.numbered i lti).0, refl);
    each_once = λ i j lti ltj e. sym (r.grown.numbered i lti).1 ∙ ap (λ (k : ℕ). get_or forest.number k 0) e
        ∙ (r.grown.numbered j ltj).1;
    all = λ v lt pass. let h = r.grown.ordered v lt (r.met v lt) in
        (get_or forest.number v 0, h.0, get_or_default forest.order (get_or forest.number v 0) v 0 h.0 ∙ h.1);
  };
  order_size = p.0;
  up_size = along_u.0 ∙ along_p.0 ∙ p.0;
  low_size = along_l.0 ∙ p.0;
  up_lower = λ i some lt. omega (arith, (hang i some lt).lower, up_at i lt, number_at i lt);
  up_joined = λ i some lt. let h = hang i some lt in record {
    pair = get_or es (get_or forest.edge (get_or forest.order i 0) 0) (0, 0);
    contained = Contains-at es (get_or forest.edge (get_or forest.order i 0) 0) h.edge_within;
    joined = subst (Joins (get_or es (get_or forest.edge (get_or forest.order i 0) 0) (0, 0)) (get_or forest.order i 0))
        (sym (over_at i some lt)) h.joined;
    other = λ q. omega (arith, h.lower, ap (λ (k : ℕ). get_or forest.number k 0) (sym (over_at i some lt) ∙ q));
  };
  second_low = omega (arith, along_l.1 1 (omega (arith, p.0, p.1)), ap (λ (k : ℕ). get_or low k 0) r.second, second);
  low_lower = λ i late lt. omega (
    arith,
    low_before es n forest low s t (get_or forest.order i 0) r (inside i lt)
        (omega (arith, late, number_at i lt)),
    low_at i lt,
    up_at i lt,
  );
  low_reached = λ i late lt.
      let less : get_or low (get_or forest.order i 0) 0 < get_or forest.number (get_or forest.order i 0) 0 =
      omega (
        arith,
        low_before es n forest low s t (get_or forest.order i 0) r (inside i lt)
            (omega (arith, late, number_at i lt)),
        (hang i (omega arith) lt).lower,
      ) in
      ⊎_elim
      (λ j. inl (subst (λ (k : ℕ). IsNeighbour es (get_or forest.order i 0) (get_or forest.order k 0))
      (sym (low_at i lt)) j))
      (λ c. let j : ℕ = get_or forest.number c.0 0 in
      let back : get_or forest.order j 0 ≡ c.0 = (r.grown.ordered c.0 c.1 (r.met c.0 c.1)).1 in
      let ltj : j < n = r.met c.0 c.1 in
      inr (
        j,
        ltj,
        (
          omega (arith, c.2, number_at i lt),
          up_at j ltj
              ∙ ap (λ (k : ℕ). get_or forest.number (get_or forest.parent k 0) 0) back
              ∙ ap (λ (k : ℕ). get_or forest.number k 0) c.3
              ∙ number_at i lt,
          low_at j ltj ∙ ap (λ (k : ℕ). get_or low k 0) back ∙ c.4 ∙ sym (low_at i lt),
        ),
      ))
      (low_found es n forest low s t (get_or forest.order i 0) r (inside i lt) less);
}
  where
    -- there is a place for each vertex, s has the place 0 and t the place 1
    p : (length forest.order ≡ n) × (2 ≤ n) × (get_or forest.number s 0 ≡ 0) × (get_or forest.number t 0 ≡ 1)
    p = places_in es n forest low s t r

    -- what stands at a place of the order is a vertex
    inside : (i : ℕ) → i < n → get_or forest.order i 0 < n
    inside i lt = (r.grown.numbered i (omega (arith, lt, p.0))).0

    -- the vertex at place i has the number i
    number_at : (i : ℕ) → i < n → get_or forest.number (get_or forest.order i 0) 0 ≡ i
    number_at i lt = (r.grown.numbered i (omega (arith, lt, p.0))).1

    -- the list of parents tells the place of the parent of the vertex at each place
    up_at : (i : ℕ) → i < n → get_or ups i 0 ≡ get_or forest.number (get_or forest.parent (get_or forest.order i 0) 0) 0
    up_at i lt = along_u.1 i (omega (arith, lt, p.0, along_p.0))
        ∙ ap (λ (k : ℕ). get_or forest.number k 0) (along_p.1 i (omega (arith, lt, p.0)))

    -- the list of low points tells the low point of the vertex at each place
    low_at : (i : ℕ) → i < n → get_or lows i 0 ≡ get_or low (get_or forest.order i 0) 0
    low_at i lt = along_l.1 i (omega (arith, lt, p.0))

    -- the vertex at each place but the first hangs below its parent
    hang : (i : ℕ) → 0 < i → i < n → Hangs es n forest (get_or forest.order i 0)
    hang i some lt = hangs es n forest low s t (get_or forest.order i 0) r (inside i lt)
        (λ e. omega (arith, some, p.2, number_at i lt, ap (λ (k : ℕ). get_or forest.number k 0) e))

    -- the vertex at the place that is told is the parent
    over_at : (i : ℕ) → 0 < i → i < n
        → get_or forest.order (get_or ups i 0) 0 ≡ get_or forest.parent (get_or forest.order i 0) 0
    over_at i some lt = let h = hang i some lt in ap (λ (k : ℕ). get_or forest.order k 0) (up_at i lt)
        ∙ (r.grown.ordered (get_or forest.parent (get_or forest.order i 0) 0) h.within
        (r.met (get_or forest.parent (get_or forest.order i 0) 0) h.within)).1

    -- the low point of t is 0
    second : get_or low t 0 ≡ 0
    second =
        let d = dart_of es r.joined.pair t s r.joined.contained (Joins-sym r.joined.pair s t r.joined.joined) in
        omega (
          arith,
          r.points.darts d.0 d.1,
          ap (λ (k : ℕ). get_or low k 0) d.2,
          ap
              (λ (k : ℕ). get_or forest.number k 0) d.3,
          p.2,
        )

-- an order that goes on behind s and t
pub two_first : (forest larger largest last : Forest) (s t x y e f : ℕ) → forest ≡ no_forest x
    → larger ≡ with_vertex forest s y e → largest ≡ with_vertex larger t s f → IsFurther largest last
    → (get_or last.order 0 0 ≡ s) × (get_or last.order 1 0 ≡ t)
two_first forest larger largest last s t x y e f none once twice g =
    let whole : largest.order ≡ s ∷ t ∷ [] = ap (λ (h : Forest). h.order) twice
    ∙ ap (λ (xs : List ℕ). xs ++ t ∷ []) (ap (λ (h : Forest). h.order) once
    ∙ ap (λ (h : Forest). h.order ++ s ∷ []) none) in
    let two : length largest.order ≡ 2 = ap length whole in (
      g.front 0 (omega (arith, two)) ∙ ap (λ (xs : List ℕ). get_or xs 0 0) whole,
      g.front 1 (omega (arith, two)) ∙ ap (λ (xs : List ℕ). get_or xs 1 0) whole,
    )
