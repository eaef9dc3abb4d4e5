-- What holds in each rotation system: the darts behind darts, and the step round faces.
use Rattle.std.proofs.Common.{◌≡◌, ℕ, ◌+◌, ◌-◌, ◌*◌, ◌/◌, ◌%◌, ◌<◌, List, length, slice_index, sym, refl, ap, ◌∙◌, subst, ⊎_elim, arith}
use Rattle.std.specs.List.{Contains}
use Rattle.std.proofs.lemmas.Bool.{cases_eq, eq-eqb, ne_eqb, eqb-true}
use Rattle.cp_orbits.specs.Orbits.{Permutes}
use Rattle.cp_lists.proofs.ExactLists.{EachOnce, place, place_at, place_is}
use Rattle.cp_rot.specs.Systems.{System, darts, vertex_of, list_of, place_after, next_in, next, IsRotation}
use Rattle.cp_faces.specs.Twins.{twin}
use Rattle.cp_faces.proofs.Twins.{twin-below, twin-apart}
use Rattle.cp_rot.specs.Genus.{face_step}

-- behind the last place comes the first
pub place_after_last : (n i : ℕ) → i + 1 ≡ n → place_after n i ≡ 0
place_after_last n i e = rw (eq-eqb (i + 1) n e) refl

-- behind each other place comes the next number
pub place_after_other : (n i : ℕ) → (i + 1 ≡ n → ⊥) → place_after n i ≡ i + 1
place_after_other n i ne = rw (ne_eqb (i + 1) n ne) refl

-- the place behind a place lies within the list
pub place_after-below : (n i : ℕ) → i < n → place_after n i < n
place_after-below n i lt =
    ⊎_elim
    (λ e. subst (λ p. p < n) (sym (place_after_last n i e)) (omega arith))
    (λ ne. subst (λ p. p < n) (sym (place_after_other n i ne)) (omega arith))
    (cases_eq (i + 1) n)

-- two places with one place behind them are equal
pub place_after-apart : (n i j : ℕ) → i < n → j < n → place_after n i ≡ place_after n j → i ≡ j
place_after-apart n i j lti ltj e =
    ⊎_elim
    (λ ei. ⊎_elim (λ ej. omega arith) (λ nj. let f : 0 ≡ j + 1 = sym (place_after_last n i ei) ∙ e ∙ place_after_other n j nj in absurd (omega arith)) (cases_eq (j + 1) n))
    (λ ni. ⊎_elim
    (λ ej. let f : i + 1 ≡ 0 = sym (place_after_other n i ni) ∙ e ∙ place_after_last n j ej in absurd (omega arith))
    (λ nj. let f : i + 1 ≡ j + 1 = sym (place_after_other n i ni) ∙ e ∙ place_after_other n j nj in omega arith) (cases_eq (j + 1) n))
    (cases_eq (i + 1) n)

-- a dart is contained in the list of its vertex
pub in_list : (r : System) → IsRotation r → (d : ℕ) → d < darts r → Contains (list_of r (vertex_of r d)) d
in_list r is d lt = (is.arranged (vertex_of r d) (is.placed d lt)).all d lt (eq-eqb (vertex_of r d) (vertex_of r d) refl)

-- an item of the list of a vertex is a dart that stands there
pub item_stands : (r : System) → IsRotation r → (v i : ℕ) → v < r.vertices → i < length (list_of r v)
    → (slice_index (list_of r v) i < darts r) × (vertex_of r (slice_index (list_of r v) i) ≡ v)
item_stands r is v i ltv lti =
    let h = (is.arranged v ltv).each_passes i lti in
    (h.0, eqb-true (vertex_of r (slice_index (list_of r v) i)) v h.1)

-- the place of a dart in the list of its vertex
abbrev pub place_in : System → ℕ → ℕ
place_in r d = place (list_of r (vertex_of r d)) d

-- a dart stands at its place
pub at_place : (r : System) → IsRotation r → (d : ℕ) → d < darts r
    → (place_in r d < length (list_of r (vertex_of r d))) × (slice_index (list_of r (vertex_of r d)) (place_in r d) ≡ d)
at_place r is d lt = place_at (list_of r (vertex_of r d)) d (in_list r is d lt)

-- the dart behind a dart is a dart of the same vertex
pub next_stands : (r : System) → IsRotation r → (d : ℕ) → d < darts r
    → (next r d < darts r) × (vertex_of r (next r d) ≡ vertex_of r d)
next_stands r is d lt =
    let xs = list_of r (vertex_of r d) in
    item_stands r is (vertex_of r d) (place_after (length xs) (place_in r d)) (is.placed d lt) (place_after-below (length xs) (place_in r d) (at_place r is d lt).0)

-- in one list of distinct items, two items with one item behind them are equal
pub next_in-apart : (xs : List ℕ) (c d : ℕ) → EachOnce xs → Contains xs c → Contains xs d → next_in xs c ≡ next_in xs d
    → c ≡ d
next_in-apart xs c d once hc hd e =
    let pc = place_at xs c hc in
    let pd = place_at xs d hd in
    let after : place_after (length xs) (place xs c) ≡ place_after (length xs) (place xs d) = once (place_after (length xs) (place xs c)) (place_after (length xs) (place xs d)) (place_after-below (length xs) (place xs c) pc.0) (place_after-below (length xs) (place xs d) pd.0) e in
    sym pc.1 ∙ ap (slice_index xs) (place_after-apart (length xs) (place xs c) (place xs d) pc.0 pd.0 after) ∙ pd.1

-- two darts with one dart behind them are equal
pub next-apart : (r : System) → IsRotation r → (c d : ℕ) → c < darts r → d < darts r → next r c ≡ next r d → c ≡ d
next-apart r is c d ltc ltd e =
    let same : vertex_of r d ≡ vertex_of r c = sym (next_stands r is d ltd).1 ∙ ap (vertex_of r) (sym e) ∙ (next_stands r is c ltc).1 in
    let in_one : Contains (list_of r (vertex_of r c)) d = subst (λ w. Contains (list_of r w) d) same (in_list r is d ltd) in
    next_in-apart (list_of r (vertex_of r c)) c d (is.arranged (vertex_of r c) (is.placed c ltc)).each_once (in_list r is c ltc) in_one (e ∙ ap (λ w. next_in (list_of r w) d) same)

-- the step round faces permutes the darts
pub face_step-Permutes : (r : System) → IsRotation r → Permutes (darts r) (face_step r)
face_step-Permutes r is = record {
  below = λ d lt. (next_stands r is (twin d) (twin-below (darts r) d is.paired lt)).0;
  apart = λ c d ltc ltd e. twin-apart c d (next-apart r is (twin c) (twin d) (twin-below (darts r) c is.paired ltc) (twin-below (darts r) d is.paired ltd) e);
}

-- the dart behind the item at place i stands at the place behind it
pub next_of_item : (r : System) → IsRotation r → (v i : ℕ) → v < r.vertices → i < length (list_of r v)
    → next r (slice_index (list_of r v) i) ≡ slice_index (list_of r v) (place_after (length (list_of r v)) i)
next_of_item r is v i ltv lti =
    ap (λ w. next_in (list_of r w) (slice_index (list_of r v) i)) (item_stands r is v i ltv lti).1
    ∙ ap (λ k. slice_index (list_of r v) (place_after (length (list_of r v)) k)) (place_is (list_of r v) i (slice_index (list_of r v) i) (is.arranged v ltv).each_once lti refl)
