-- Rings of a map, and what an exchange of two values makes of them.
use Rattle.std.proofs.Common.{◌≡◌, ℕ, List, [], ◌∷◌, ◌++◌, sym, refl, ap, ◌∙◌, subst, inl, ⊎_elim}
use Rattle.std.proofs.lemmas.Bool.{cases_eq, cond-true, cond-false}
use Rattle.cp_lists.specs.CyclicLists.{Distinct, Has, Lacks, follow, next_from}
use Rattle.cp_lists.specs.Rows.{flat}
use Rattle.cp_lists.specs.Turns.{IsTurn}
use Rattle.cp_lists.proofs.CyclicLists.{follow-Has, follow-apart, next_from-append_left, next_from-append_right, next_from_at, next_from_other}
use Rattle.cp_lists.proofs.DistinctLists.{Distinct-apart, Distinct-apart_right, Distinct-append_left, Distinct-append_right, Has-append_cases, Has-append_left, Has-append_right, Lacks-append_left, Lacks-append_right, has_lacks, has_other}
use Rattle.cp_lists.proofs.TurnedLists.{Has-of_turn, turn-Distinct, turn-follow}
use Rattle.cp_orbits.specs.Orbits.{exchange}
use Rattle.cp_orbits.proofs.OrbitLaws.{exchange_comm, exchange_left, exchange_other}
use Rattle.cp_maps.specs.Maps.{Ring, Rings, has, next_by, swapped}
use Rattle.cp_maps.proofs.ListFacts.{has_no, has_yes}

-- the items of a row follow each other alike with another end, but for the two ends exchanged
pub next_from_ends : (a b d x : ℕ) (xs : List ℕ) → Has d (x ∷ xs) → Lacks a xs → Lacks b xs
    → next_from b (x ∷ xs) d ≡ exchange a b (next_from a (x ∷ xs) d)
next_from_ends a b d x [] h la lb =
    ⊎_elim (λ e. next_from_at b d x [] e ∙ sym (exchange_left a b (next_from a (x ∷ []) d) (next_from_at a d x [] e)))
    (λ k. absurd k) h
next_from_ends a b d x (y ∷ xs) h la lb = ⊎_elim
    (λ e. next_from_at b d x (y ∷ xs) e
    ∙ sym (ap (exchange a b) (next_from_at a d x (y ∷ xs) e) ∙ exchange_other a b y la.0 lb.0))
    (λ ne. next_from_other b d x (y ∷ xs) ne
    ∙ next_from_ends a b d y xs (⊎_elim (λ e. absurd (ne e)) (λ k. k) h) la.1 lb.1
    ∙ ap (exchange a b) (sym (next_from_other a d x (y ∷ xs) ne)))
    (cases_eq x d)

-- two rings become one, each beginning with its dart
pub Ring-merged : (f : ℕ → ℕ) (a b : ℕ) (xs ys : List ℕ) → Distinct (a ∷ (xs ++ b ∷ ys)) → Ring f (a ∷ xs)
    → Ring f (b ∷ ys) → Ring (swapped a b f) (a ∷ (xs ++ b ∷ ys))
Ring-merged f a b xs ys dis one two = record {
  distinct = dis;
  along = λ d h. ⊎_elim
      (λ k. ap (exchange a b) (one.along d k)
      ∙ sym (next_from_ends a b d a xs k one.distinct.0 (Distinct-apart_right b (a ∷ xs) (b ∷ ys) dis (inl refl)).1)
      ∙ sym (next_from-append_left a d (a ∷ xs) (b ∷ ys) k))
      (λ k. ap (exchange a b) (two.along d k) ∙ exchange_comm a b (follow (b ∷ ys) d)
      ∙ sym (next_from_ends b a d b ys k two.distinct.0 (Distinct-apart a (a ∷ xs) (b ∷ ys) dis (inl refl)).1)
      ∙ sym (next_from-append_right a d (a ∷ xs) (b ∷ ys) (Distinct-apart_right d (a ∷ xs) (b ∷ ys) dis k)))
      (Has-append_cases d (a ∷ xs) (b ∷ ys) h);
}

-- a ring becomes two, each beginning with its dart
pub Ring-split : (f : ℕ → ℕ) (a b : ℕ) (xs ys : List ℕ) → Ring f (a ∷ (xs ++ b ∷ ys))
    → Ring (swapped a b f) (a ∷ xs) × Ring (swapped a b f) (b ∷ ys)
Ring-split f a b xs ys ring = (
  record {
    distinct = first;
    along =
        λ d k. ap (exchange a b) (ring.along d (Has-append_left d (a ∷ xs) (b ∷ ys) k)
        ∙ next_from-append_left a d (a ∷ xs) (b ∷ ys) k)
        ∙ exchange_comm a b (next_from b (a ∷ xs) d)
        ∙ sym (next_from_ends b a d a xs k
        (Distinct-apart_right b (a ∷ xs) (b ∷ ys) ring.distinct (inl refl)).1 first.0);
  },
  record {
    distinct = second;
    along =
        λ d k. ap (exchange a b) (ring.along d (Has-append_right d (a ∷ xs) (b ∷ ys) k)
        ∙ next_from-append_right a d (a ∷ xs) (b ∷ ys) (Distinct-apart_right d (a ∷ xs) (b ∷ ys) ring.distinct k))
        ∙ sym (next_from_ends a b d b ys k (Distinct-apart a (a ∷ xs) (b ∷ ys) ring.distinct (inl refl)).1 second.0);
  },
)
  where
    first : Distinct (a ∷ xs)
    first = Distinct-append_left (a ∷ xs) (b ∷ ys) ring.distinct

    second : Distinct (b ∷ ys)
    second = Distinct-append_right (a ∷ xs) (b ∷ ys) ring.distinct

-- a ring without the two darts stays one when the values that lead to them are exchanged
pub Ring-far : (f : ℕ → ℕ) (a b : ℕ) (xs : List ℕ) → Lacks a xs → Lacks b xs → Ring f xs → Ring (swapped a b f) xs
Ring-far f a b xs la lb ring = record {
  distinct = ring.distinct;
  along = λ d h. ap (exchange a b) (ring.along d h)
      ∙ exchange_other a b (follow xs d) (has_other (follow xs d) a xs (follow-Has d xs h) la)
      (has_other (follow xs d) b xs (follow-Has d xs h) lb);
}

-- rings without the two darts stay rings
pub Rings-far : (f : ℕ → ℕ) (a b : ℕ) (rows : List (List ℕ)) → Lacks a (flat rows) → Lacks b (flat rows)
    → Rings f rows → Rings (swapped a b f) rows
Rings-far f a b [] la lb rings = tt
Rings-far f a b (xs ∷ rows) la lb rings = (
  Ring-far f a b xs (Lacks-append_left a xs (flat rows) la) (Lacks-append_left b xs (flat rows) lb) rings.0,
  Rings-far f a b rows (Lacks-append_right a xs (flat rows) la) (Lacks-append_right b xs (flat rows) lb) rings.1,
)

-- a turn of a ring is a ring
pub Ring-turned : (f : ℕ → ℕ) (xs ys : List ℕ) → IsTurn xs ys → Ring f xs → Ring f ys
Ring-turned f xs ys turn ring = record {
  distinct = turn-Distinct xs ys turn ring.distinct;
  along = λ d h. let k : Has d xs = Has-of_turn xs ys d turn h in
      ring.along d k ∙ sym (turn-follow xs ys d ring.distinct turn k);
}

-- rings of one map are rings of a map that agrees on their items
pub Rings-agree : (f g : ℕ → ℕ) (rows : List (List ℕ)) → ((d : ℕ) → Has d (flat rows) → f d ≡ g d) → Rings f rows
    → Rings g rows
Rings-agree f g [] same rings = tt
Rings-agree f g (xs ∷ rows) same rings = (
  record {
    distinct = rings.0.distinct;
    along = λ d h. sym (same d (Has-append_left d xs (flat rows) h))
        ∙ rings.0.along d h;
  },
  Rings-agree f g rows (λ d h. same d (Has-append_right d xs (flat rows) h)) rings.1,
)

-- the dart behind an item of rings is an item of them
pub rings_stay : (f : ℕ → ℕ) (rows : List (List ℕ)) (d : ℕ) → Rings f rows → Has d (flat rows) → Has (f d) (flat rows)
rings_stay f [] d rings h = absurd h
rings_stay f (xs ∷ rows) d rings h = ⊎_elim
    (λ k. Has-append_left (f d) xs (flat rows) (subst (λ y. Has y xs) (sym (rings.0.along d k)) (follow-Has d xs k)))
    (λ k. Has-append_right (f d) xs (flat rows) (rings_stay f rows d rings.1 k))
    (Has-append_cases d xs (flat rows) h)

-- no two items of rings lead to one dart
pub rings_apart : (f : ℕ → ℕ) (rows : List (List ℕ)) (c d : ℕ) → Distinct (flat rows) → Rings f rows
    → Has c (flat rows) → Has d (flat rows) → f c ≡ f d → c ≡ d
rings_apart f [] c d dis rings hc hd e = absurd hc
rings_apart f (xs ∷ rows) c d dis rings hc hd e = ⊎_elim
    (λ k. ⊎_elim
    (λ l. follow-apart c d xs rings.0.distinct k l (sym (rings.0.along c k) ∙ e ∙ rings.0.along d l))
    (λ l. absurd (cross c d k l e))
    (Has-append_cases d xs (flat rows) hd))
    (λ k. ⊎_elim
    (λ l. absurd (cross d c l k (sym e)))
    (λ l. rings_apart f rows c d (Distinct-append_right xs (flat rows) dis) rings.1 k l e)
    (Has-append_cases d xs (flat rows) hd))
    (Has-append_cases c xs (flat rows) hc)
  where
    cross : (x y : ℕ) → Has x xs → Has y (flat rows) → f x ≡ f y → ⊥
    cross x y k l same =
        has_lacks (f x) (flat rows) (subst (λ z. Has z (flat rows)) (sym same) (rings_stay f rows y rings.1 l))
        (Distinct-apart (f x) xs (flat rows) dis (subst (λ z. Has z xs) (sym (rings.0.along x k)) (follow-Has x xs k)))

-- two maps with the same rings agree on their items
pub rings_same : (f g : ℕ → ℕ) (rows : List (List ℕ)) (d : ℕ) → Rings f rows → Rings g rows → Has d (flat rows)
    → f d ≡ g d
rings_same f g [] d rf rg h = absurd h
rings_same f g (xs ∷ rows) d rf rg h =
    ⊎_elim (λ k. rf.0.along d k ∙ sym (rg.0.along d k)) (λ k. rings_same f g rows d rf.1 rg.1 k)
    (Has-append_cases d xs (flat rows) h)

-- the map made of lists has them as rings
pub rings_by : (rows : List (List ℕ)) → Distinct (flat rows) → Rings (next_by rows) rows
rings_by [] dis = tt
rings_by (xs ∷ rows) dis = (
  record {
    distinct = Distinct-append_left xs (flat rows) dis;
    along =
        λ d h. cond-true (has d xs) (follow xs d) (next_by rows d) (has_yes d xs h);
  },
  Rings-agree (next_by rows) (next_by (xs ∷ rows)) rows
      (λ d h. sym (cond-false (has d xs) (follow xs d) (next_by rows d)
      (has_no d xs (Distinct-apart_right d xs (flat rows) dis h))))
      (rings_by rows (Distinct-append_right xs (flat rows) dis)),
)

-- the map made of lists leaves all other darts loose
pub loose_by : (rows : List (List ℕ)) (d : ℕ) → Lacks d (flat rows) → next_by rows d ≡ d
loose_by [] d l = refl
loose_by (xs ∷ rows) d l =
    cond-false (has d xs) (follow xs d) (next_by rows d) (has_no d xs (Lacks-append_left d xs (flat rows) l))
    ∙ loose_by rows d (Lacks-append_right d xs (flat rows) l)

-- rings of two rows of lists are rings of both
pub Rings-append : (f : ℕ → ℕ) (rows others : List (List ℕ)) → Rings f rows → Rings f others → Rings f (rows ++ others)
Rings-append f [] others one two = two
Rings-append f (xs ∷ rows) others one two = (one.0, Rings-append f rows others one.1 two)

-- rings of both rows are rings of the first
pub Rings-append_left : (f : ℕ → ℕ) (rows others : List (List ℕ)) → Rings f (rows ++ others) → Rings f rows
Rings-append_left f [] others r = tt
Rings-append_left f (xs ∷ rows) others r = (r.0, Rings-append_left f rows others r.1)

-- rings of both rows are rings of the second
pub Rings-append_right : (f : ℕ → ℕ) (rows others : List (List ℕ)) → Rings f (rows ++ others) → Rings f others
Rings-append_right f [] others r = r
Rings-append_right f (xs ∷ rows) others r = Rings-append_right f rows others r.1
