-- Cut vertices, by the components of what is left where the vertex is removed.
use Rattle.std.proofs.Common.{◌≡◌, ℕ, zero, suc, ◌<◌, ◌⊎◌, ◌↔◌, Bool, true, false, List, [], ◌∷◌, length, get_or, cond, not, ◌&&◌, eqb, sym, refl, ap, ◌∙◌, subst, inl, inr, ⊎_elim, arith, MatchBool}
use Rattle.std.specs.List.{Contains, filter}
use Rattle.std.proofs.lemmas.Bool.{cases_eq, false≢true, not_from_true, eq-eqb, ne_eqb}
use Rattle.std.proofs.lemmas.List.{get_or_read}
use Rattle.cp_base.specs.Graphs.{AreWithin}
use Rattle.cp_orbits.specs.Classes.{labels}
use Rattle.cp_orbits.specs.Connected.{Joins, Connected, here, step}
use Rattle.cp_orbits.proofs.ClassLabels.{labels_connected, connected_labels, Contains-head, Contains-tail}
use Rattle.cp_conn.specs.CutVertex.{avoids, without_vertex, IsNeighbour, HasNeighbourApart, IsCutVertex}
use Rattle.cp_conn.proofs.DartChains.{Contains-at, within_pair, within_joined}

-- what a list contains is its first item or in the rest
pub Contains-split : {X : Type 0} (x e : X) (es : List X) → Contains (x ∷ es) e → (x ≡ e) ⊎ Contains es e
Contains-split x e es c = split_at c.0 c.1 c.2
  where
    -- what stands at a place is the first item or in the rest
    split_at : (k : ℕ) → k < length (x ∷ es) → get_or (x ∷ es) k e ≡ e → (x ≡ e) ⊎ Contains es e
    split_at zero lt f = inl f
    split_at (suc k) lt f = inr (k, omega arith, f)

-- what a filter keeps, where the test of the first item is known
kept_first : {X : Type 0} (p : X → Bool) (x e : X) (es : List X) (b : Bool) → p x ≡ b
    → Contains (cond b (x ∷ filter p es) (filter p es)) e → (Contains (filter p es) e → Contains es e × (p e ≡ true))
    → Contains (x ∷ es) e × (p e ≡ true)
kept_first p x e es true t c rest =
    ⊎_elim
    (λ f. (subst (Contains (x ∷ es)) f (Contains-head x es), ap p (sym f) ∙ t))
    (λ d. let h : Contains es e × (p e ≡ true) = rest d in (Contains-tail x e es h.0, h.1))
    (Contains-split x e (filter p es) c)
kept_first p x e es false t c rest = let h : Contains es e × (p e ≡ true) = rest c in (Contains-tail x e es h.0, h.1)

-- what a filter keeps is contained, and passes
pub kept_pair : {X : Type 0} (p : X → Bool) (es : List X) (e : X) → Contains (filter p es) e
    → Contains es e × (p e ≡ true)
kept_pair p [] e c = absurd (omega (arith, c.1))
kept_pair p (x ∷ es) e c = kept_first p x e es (p x) refl c (kept_pair p es e)

-- what a filter keeps of the rest or as the first item, where the test of the first item is known
keeps_first : {X : Type 0} (p : X → Bool) (x e : X) (es : List X) (b : Bool) → p x ≡ b → p e ≡ true → (x ≡ e)
    ⊎ Contains es e → (Contains es e → Contains (filter p es) e) → Contains (cond b (x ∷ filter p es) (filter p es)) e
keeps_first p x e es true t pe at rest =
    ⊎_elim (λ f. subst (Contains (x ∷ filter p es)) f (Contains-head x (filter p es)))
    (λ c. Contains-tail x e (filter p es) (rest c)) at
keeps_first p x e es false t pe at rest = ⊎_elim (λ f. absurd (false≢true (sym t ∙ ap p f ∙ pe))) rest at

-- what is contained and passes is kept
pub kept_of : {X : Type 0} (p : X → Bool) (es : List X) (e : X) → Contains es e → p e ≡ true → Contains (filter p es) e
kept_of p [] e c t = absurd (omega (arith, c.1))
kept_of p (x ∷ es) e c t = keeps_first p x e es (p x) refl t (Contains-split x e es c) (λ d. kept_of p es e d t)

-- edges that pass a test are between vertices, where all edges are
pub AreWithin-filter : (p : ℕ × ℕ → Bool) (n : ℕ) (es : List (ℕ × ℕ)) → AreWithin n es → AreWithin n (filter p es)
AreWithin-filter p n es w k lt =
    within_pair n es (get_or (filter p es) k (0, 0)) w
    (kept_pair p es (get_or (filter p es) k (0, 0)) (Contains-at (filter p es) k lt)).0

-- the edges that are left where a vertex is removed are between vertices
pub AreWithin-without : (n v : ℕ) (es : List (ℕ × ℕ)) → AreWithin n es → AreWithin n (without_vertex v es)
AreWithin-without n v es w = AreWithin-filter (avoids v) n es w

-- a neighbour is a vertex
pub near_within : (n : ℕ) (es : List (ℕ × ℕ)) (v x : ℕ) → AreWithin n es → IsNeighbour es v x → x < n
near_within n es v x w near = within_joined n es near.pair v x w near.contained near.joined

-- neighbours with two labels make a cut vertex
cuts_yes : (es : List (ℕ × ℕ)) (n v near : ℕ) (least : List ℕ) → AreWithin n es
    → ((x : ℕ) → x < n → get_or least x 0 ≡ labels (without_vertex v es) x) → IsNeighbour es v near
    → HasNeighbourApart es v least (get_or least near 0) → IsCutVertex es v
cuts_yes es n v near least w labelled is apart = record {
  one = near;
  two = apart.which;
  near_one = is;
  near_two = apart.near;
  apart = λ c. apart.differs (labelled apart.which (near_within n es v apart.which w apart.near)
      ∙ sym (labels_connected (without_vertex v es) near apart.which c)
      ∙ sym (labelled near (near_within n es v near w is)));
}

-- without neighbours of two labels it is none
cuts_no : (es : List (ℕ × ℕ)) (n v label : ℕ) (least : List ℕ) → AreWithin n es
    → ((x : ℕ) → x < n → get_or least x 0 ≡ labels (without_vertex v es) x) → (HasNeighbourApart es v least label → ⊥)
    → IsCutVertex es v → ⊥
cuts_no es n v label least w labelled none cut =
    cut.apart (connected_labels (without_vertex v es) cut.one cut.two
    (sym (labelled cut.one (near_within n es v cut.one w cut.near_one)) ∙ same cut.one cut.near_one
    ∙ sym (same cut.two cut.near_two) ∙ labelled cut.two (near_within n es v cut.two w cut.near_two)))
  where
    -- each neighbour of v has the label
    same : (x : ℕ) → IsNeighbour es v x → get_or least x 0 ≡ label
    same x near = ⊎_elim (λ e. e) (λ ne. absurd (none (record { which = x; near = near; differs = ne })))
        (cases_eq (get_or least x 0) label)

-- a test that decides a fact that is the same as another
told : (P C : Type 0) (b : Bool) → MatchBool b P (P → ⊥) → (P → C) → ((P → ⊥) → C → ⊥) → (b ≡ true) ↔ C
told P C true m there back = (λ t. there m, λ h. refl)
told P C false m there back = (λ t. absurd (false≢true t), λ h. absurd (back m h))

-- the test for two labels tells a cut vertex
pub cuts_told : (es : List (ℕ × ℕ)) (n bound v near read : ℕ) (rest : List (ℕ × ℕ)) (least : List ℕ) (b : Bool)
    → AreWithin n es → bound ≡ n → rest ≡ without_vertex v es → length least ≡ bound
    → ((x : ℕ) → x < bound → get_or least x 0 ≡ labels rest x) → IsNeighbour es v near → read ≡ get_or least near read
    → MatchBool b (HasNeighbourApart es v least read) (HasNeighbourApart es v least read → ⊥) → (b ≡ true)
    ↔ IsCutVertex es v
cuts_told es n bound v near read rest least b w bound_is rest_is size labelled is read_is m =
    told (HasNeighbourApart es v least read) (IsCutVertex es v) b m
    (λ apart. cuts_yes es n v near least w known is (subst (HasNeighbourApart es v least) at apart))
    (λ none. cuts_no es n v read least w known none)
  where
    -- the list tells the labels of the vertices where v is removed
    known : (x : ℕ) → x < n → get_or least x 0 ≡ labels (without_vertex v es) x
    known x lt = labelled x (omega arith) ∙ ap (λ (fs : List (ℕ × ℕ)). labels fs x) rest_is

    -- what was read is the label of the neighbour
    at : read ≡ get_or least near 0
    at = get_or_read least near read (omega (arith, near_within n es v near w is)) read_is 0

-- a vertex without neighbours is no cut vertex
pub cuts_alone : (es : List (ℕ × ℕ)) (v : ℕ) → ((x : ℕ) → IsNeighbour es v x → ⊥) → (false ≡ true) ↔ IsCutVertex es v
cuts_alone es v none = (λ t. absurd (false≢true t), λ cut. absurd (none cut.one cut.near_one))

-- an edge that avoids v does not lead to v
pub avoided : (v : ℕ) (e : ℕ × ℕ) (x y : ℕ) → avoids v e ≡ true → Joins e x y → y ≡ v → ⊥
avoided v e x y t j is =
    ⊎_elim
    (λ h. false≢true (sym (not_from_true (eqb e.1 v) (eq-eqb e.1 v (h.1 ∙ is)))
    ∙ and_right_true (not (eqb e.0 v)) (not (eqb e.1 v)) t))
    (λ h. false≢true (sym (not_from_true (eqb e.0 v) (eq-eqb e.0 v (h.0 ∙ is)))
    ∙ and_left_true (not (eqb e.0 v)) (not (eqb e.1 v)) t))
    j
  where
    -- where both hold, the first does
    and_left_true : (a b : Bool) → (a && b) ≡ true → a ≡ true
    and_left_true true b u = refl
    and_left_true false b u = u

    -- where both hold, the second does
    and_right_true : (a b : Bool) → (a && b) ≡ true → b ≡ true
    and_right_true true b u = u
    and_right_true false b u = absurd (false≢true u)

-- an edge that does not lead to v or from v avoids it
pub avoids_of : (v : ℕ) (e : ℕ × ℕ) → (e.0 ≡ v → ⊥) → (e.1 ≡ v → ⊥) → avoids v e ≡ true
avoids_of v e one two = rw (ne_eqb e.0 v one, ne_eqb e.1 v two) refl

-- what is removed is connected to nothing
pub removed_alone : (v : ℕ) (es : List (ℕ × ℕ)) (x : ℕ) → Connected (without_vertex v es) x v → x ≡ v
removed_alone v es x here = refl
removed_alone v es x (step {y = y} c e k j) = absurd (avoided v e y v (kept_pair (avoids v) es e k).1 j refl)
