-- The lists of a map: they determine it, and their order, their turns, bare vertices and loose darts do not matter.
use Rattle.std.proofs.Common.{◌≡◌, ℕ, ◌<◌, ◌≢◌, List, [], ◌∷◌, ◌++◌, append_assoc, sym, refl, ap, ◌∙◌, subst, inl, ⊎_elim}
use Rattle.std.proofs.lemmas.Bool.{cases_eq, false≢true}
use Rattle.std.proofs.lemmas.List.{append-nil}
use Rattle.cp_lists.specs.CyclicLists.{Distinct, Has, Lacks, follow}
use Rattle.cp_lists.specs.Rows.{flat}
use Rattle.cp_lists.specs.Turns.{IsTurn}
use Rattle.cp_lists.proofs.CyclicLists.{follow-Has, next_from_at}
use Rattle.cp_lists.proofs.DistinctLists.{Distinct-apart, Distinct-apart_right, Distinct-append, Distinct-append_left, Distinct-append_right, Distinct-swapped, Has-append_cases, Has-append_left, Has-append_right, Has-swapped, Lacks-append, Lacks-append_right, Lacks-from, has_cases, has_lacks}
use Rattle.cp_lists.proofs.FlatLists.{flat-append}
use Rattle.cp_lists.proofs.FollowedLists.{iterate_in_list}
use Rattle.cp_lists.proofs.TurnedLists.{Has-of_turn, turn-Distinct, turn-Has}
use Rattle.cp_orbits.specs.Classes.{graph, labels}
use Rattle.cp_orbits.specs.Orbits.{Permutes, exchange}
use Rattle.cp_orbits.proofs.ClassLabels.{same_labels}
use Rattle.cp_orbits.proofs.ListOrbits.{follow-reaches}
use Rattle.cp_orbits.proofs.OrbitLaws.{Respects-graph, exchange_other, labels_reached}
use Rattle.cp_maps.specs.Maps.{Below, IsMapOf, Ring, Rings, has, next_by, swapped}
use Rattle.cp_maps.proofs.ListFacts.{Below-from, below_item, has_no, has_yes}
use Rattle.cp_maps.proofs.Rings.{Ring-merged, Ring-split, Ring-turned, Rings-append, Rings-append_left, Rings-append_right, Rings-far, loose_by, rings_apart, rings_by, rings_same, rings_stay}

-- there is a map with given lists of different darts below n
pub IsMapOf-by : (n : ℕ) (rows : List (List ℕ)) → Distinct (flat rows) → Below n (flat rows)
    → IsMapOf n (next_by rows) rows
IsMapOf-by n rows dis below =
    record { once = dis; below = below; rings = rings_by rows dis; loose = λ d lt l. loose_by rows d l }

-- a map with lists
module _ (n : ℕ) (f : ℕ → ℕ) (rows : List (List ℕ)) (is : IsMapOf n f rows) where
  -- a map with lists is a permutation of all darts
  pub IsMapOf-Permutes : Permutes n f
  IsMapOf-Permutes = record {
    below =
        λ d lt. ⊎_elim (λ h. below_item n (f d) (flat rows) is.below (rings_stay f rows d is.rings h))
        (λ l. subst (λ y. y < n) (sym (is.loose d lt l)) lt) (has_cases d (flat rows));
    apart = λ c d ltc ltd e. ⊎_elim
        (λ hc. ⊎_elim
        (λ hd. rings_apart f rows c d is.once is.rings hc hd e)
        (λ ld. absurd (has_lacks d (flat rows)
        (subst (λ y. Has y (flat rows)) (e ∙ is.loose d ltd ld) (rings_stay f rows c is.rings hc)) ld))
        (has_cases d (flat rows)))
        (λ lc. ⊎_elim
        (λ hd. absurd (has_lacks c (flat rows)
        (subst (λ y. Has y (flat rows)) (sym e ∙ is.loose c ltc lc) (rings_stay f rows d is.rings hd)) lc))
        (λ ld. sym (is.loose c ltc lc) ∙ e ∙ is.loose d ltd ld)
        (has_cases d (flat rows)))
        (has_cases c (flat rows));
  }

  -- the lists of a map determine it
  pub IsMapOf-unique : (g : ℕ → ℕ) → IsMapOf n g rows → (d : ℕ) → d < n → f d ≡ g d
  IsMapOf-unique g other d lt =
      ⊎_elim (λ h. rings_same f g rows d is.rings other.rings h) (λ l. is.loose d lt l ∙ sym (other.loose d lt l))
      (has_cases d (flat rows))

  -- other rings of a map with the same items are its lists, too
  pub IsMapOf-other : (rows' : List (List ℕ)) → ((d : ℕ) → Has d (flat rows') → Has d (flat rows))
      → ((d : ℕ) → Has d (flat rows) → Has d (flat rows')) → Distinct (flat rows') → Rings f rows' → IsMapOf n f rows'
  IsMapOf-other rows' to from dis rings = record {
    once = dis;
    below = Below-from n (flat rows') (λ d h. below_item n d (flat rows) is.below (to d h));
    rings = rings;
    loose = λ d lt l. is.loose d lt (Lacks-from d (flat rows) (λ h. has_lacks d (flat rows') (from d h) l));
  }

  -- a map has an empty list more: a bare vertex
  pub IsMapOf-bare : IsMapOf n f ([] ∷ rows)
  IsMapOf-bare =
      record {
        once = is.once;
        below = is.below;
        rings =
            (record { distinct = tt; along = λ d h. absurd h }, is.rings);
        loose = is.loose;
      }

  -- a map has a loose dart as a list of its own
  pub IsMapOf-loose : (x : ℕ) → x < n → Lacks x (flat rows) → IsMapOf n f ((x ∷ []) ∷ rows)
  IsMapOf-loose x lt l = record {
    once = (l, is.once);
    below = (lt, is.below);
    rings = (
      record {
        distinct = (tt, tt);
        along =
            λ d h. ⊎_elim (λ e. ap f (sym e) ∙ is.loose x lt l
            ∙ sym (ap (follow (x ∷ [])) (sym e) ∙ next_from_at x x x [] refl)) (λ k. absurd k) h;
      },
      is.rings,
    );
    loose = λ d ltd ld. is.loose d ltd ld.1;
  }

-- a dart in a list of its own can be left to be loose
pub IsMapOf-unloose : (n : ℕ) (f : ℕ → ℕ) (x : ℕ) (rows : List (List ℕ)) → IsMapOf n f ((x ∷ []) ∷ rows)
    → IsMapOf n f rows
IsMapOf-unloose n f x rows is = record {
  once = is.once.1;
  below = is.below.1;
  rings = is.rings.1;
  loose =
      λ d lt l. ⊎_elim (λ e. ap f (sym e) ∙ is.rings.0.along x (inl refl) ∙ next_from_at x x x [] refl ∙ e)
      (λ ne. is.loose d lt (ne, l)) (cases_eq x d);
}

-- a map has its first two lists in the other order
pub IsMapOf-swap : (n : ℕ) (f : ℕ → ℕ) (xs ys : List ℕ) (rows : List (List ℕ)) → IsMapOf n f (xs ∷ ys ∷ rows)
    → IsMapOf n f (ys ∷ xs ∷ rows)
IsMapOf-swap n f xs ys rows is =
    IsMapOf-other n f (xs ∷ ys ∷ rows) is (ys ∷ xs ∷ rows) (λ d h. Has-swapped d ys xs (flat rows) h)
    (λ d h. Has-swapped d xs ys (flat rows) h) (Distinct-swapped xs ys (flat rows) is.once)
    (is.rings.1.0, (is.rings.0, is.rings.1.1))

-- a map has its third list in front
pub IsMapOf-third : (n : ℕ) (f : ℕ → ℕ) (xs ys zs : List ℕ) (rows : List (List ℕ)) → IsMapOf n f (xs ∷ ys ∷ zs ∷ rows)
    → IsMapOf n f (zs ∷ xs ∷ ys ∷ rows)
IsMapOf-third n f xs ys zs rows is = IsMapOf-other n f (xs ∷ ys ∷ zs ∷ rows) is (zs ∷ xs ∷ ys ∷ rows)
    (λ d h. subst (Has d) (append_assoc xs ys (zs ++ flat rows))
    (Has-swapped d zs (xs ++ ys) (flat rows) (subst (λ ws. Has d (zs ++ ws)) (sym (append_assoc xs ys (flat rows))) h)))
    (λ d h. subst (λ ws. Has d (zs ++ ws)) (append_assoc xs ys (flat rows))
    (Has-swapped d (xs ++ ys) zs (flat rows) (subst (Has d) (sym (append_assoc xs ys (zs ++ flat rows))) h)))
    (subst (λ ws. Distinct (zs ++ ws)) (append_assoc xs ys (flat rows))
    (Distinct-swapped (xs ++ ys) zs (flat rows) (subst Distinct (sym (append_assoc xs ys (zs ++ flat rows))) is.once)))
    (is.rings.1.1.0, (is.rings.0, (is.rings.1.0, is.rings.1.1.1)))

-- a map has its first list turned
pub IsMapOf-turn : (n : ℕ) (f : ℕ → ℕ) (xs ys : List ℕ) (rows : List (List ℕ)) → IsTurn xs ys
    → IsMapOf n f (xs ∷ rows) → IsMapOf n f (ys ∷ rows)
IsMapOf-turn n f xs ys rows turn is = IsMapOf-other n f (xs ∷ rows) is (ys ∷ rows)
    (λ d h. ⊎_elim (λ k. Has-append_left d xs (flat rows) (Has-of_turn xs ys d turn k))
    (λ k. Has-append_right d xs (flat rows) k) (Has-append_cases d ys (flat rows) h))
    (λ d h. ⊎_elim (λ k. Has-append_left d ys (flat rows) (turn-Has xs ys d turn k))
    (λ k. Has-append_right d ys (flat rows) k) (Has-append_cases d xs (flat rows) h))
    (Distinct-append ys (flat rows) (turn-Distinct xs ys turn is.rings.0.distinct)
    (Distinct-append_right xs (flat rows) is.once)
    (λ d h. Distinct-apart d xs (flat rows) is.once (Has-of_turn xs ys d turn h)))
    (Ring-turned f xs ys turn is.rings.0, is.rings.1)

-- a map has an empty list less
pub IsMapOf-unbare : (n : ℕ) (f : ℕ → ℕ) (rows : List (List ℕ)) → IsMapOf n f ([] ∷ rows) → IsMapOf n f rows
IsMapOf-unbare n f rows is = record { once = is.once; below = is.below; rings = is.rings.1; loose = is.loose }

-- the lists where two values are exchanged
module _ (n : ℕ) (f : ℕ → ℕ) (a b : ℕ) (xs ys : List ℕ) (rows : List (List ℕ)) where
  -- the items of the two lists in one
  one_row : (a ∷ (xs ++ b ∷ ys)) ++ flat rows ≡ (a ∷ xs) ++ ((b ∷ ys) ++ flat rows)
  one_row = append_assoc (a ∷ xs) (b ∷ ys) (flat rows)

  -- two lists become one where the values that lead to their first darts are exchanged
  pub IsMapOf-merged : IsMapOf n f ((a ∷ xs) ∷ (b ∷ ys) ∷ rows)
      → IsMapOf n (swapped a b f) ((a ∷ (xs ++ b ∷ ys)) ∷ rows)
  IsMapOf-merged is = record {
    once = whole;
    below = subst (Below n) (sym one_row) is.below;
    rings = (
      Ring-merged f a b xs ys (Distinct-append_left (a ∷ (xs ++ b ∷ ys)) (flat rows) whole) is.rings.0 is.rings.1.0,
      Rings-far f a b rows (Distinct-apart a (a ∷ (xs ++ b ∷ ys)) (flat rows) whole (inl refl))
          (Distinct-apart b (a ∷ (xs ++ b ∷ ys)) (flat rows) whole (Has-append_right b (a ∷ xs) (b ∷ ys) (inl refl)))
          is.rings.1.1,
    );
    loose = λ d lt l.
        let old : Lacks d ((a ∷ xs) ++ ((b ∷ ys) ++ flat rows)) = subst (Lacks d) one_row l in
        ap (exchange a b) (is.loose d lt old)
        ∙ exchange_other a b d (λ e. old.0 (sym e))
        (λ e. (Lacks-append_right d (a ∷ xs) ((b ∷ ys) ++ flat rows) old).0 (sym e));
  }
    where
      whole : Distinct ((a ∷ (xs ++ b ∷ ys)) ++ flat rows)
      whole = subst Distinct (sym one_row) is.once

  -- a list becomes two where the values that lead to two of its darts are exchanged
  pub IsMapOf-split : IsMapOf n f ((a ∷ (xs ++ b ∷ ys)) ∷ rows) → IsMapOf n (swapped a b f) ((a ∷ xs) ∷ (b ∷ ys) ∷ rows)
  IsMapOf-split is = record {
    once = subst Distinct one_row is.once;
    below = subst (Below n) one_row is.below;
    rings = (
      two.0,
      (
        two.1,
        Rings-far f a b rows (Distinct-apart a (a ∷ (xs ++ b ∷ ys)) (flat rows) is.once (inl refl))
            (Distinct-apart b (a ∷ (xs ++ b ∷ ys)) (flat rows) is.once
            (Has-append_right b (a ∷ xs) (b ∷ ys) (inl refl)))
            is.rings.1,
      ),
    );
    loose = λ d lt l.
        let old : Lacks d ((a ∷ (xs ++ b ∷ ys)) ++ flat rows) = subst (Lacks d) (sym one_row) l in
        ap (exchange a b) (is.loose d lt old)
        ∙ exchange_other a b d (λ e. l.0 (sym e))
        (λ e. (Lacks-append_right d (a ∷ xs) ((b ∷ ys) ++ flat rows) l).0 (sym e));
  }
    where
      two : Ring (swapped a b f) (a ∷ xs) × Ring (swapped a b f) (b ∷ ys)
      two = Ring-split f a b xs ys is.rings.0

-- the first list of a map
module _ (n : ℕ) (f : ℕ → ℕ) (xs : List ℕ) (rows : List (List ℕ)) (is : IsMapOf n f (xs ∷ rows)) where
  -- a dart is in it as the dart behind is
  stays_in : (d : ℕ) → d < n → has d xs ≡ has (f d) xs
  stays_in d lt = ⊎_elim
      (λ h. has_yes d xs h ∙ sym (has_yes (f d) xs
      (subst (λ y. Has y xs) (sym (is.rings.0.along d h)) (follow-Has d xs h))))
      (λ l. has_no d xs l ∙ sym (has_no (f d) xs (⊎_elim
      (λ k. Distinct-apart_right (f d) xs (flat rows) is.once (rings_stay f rows d is.rings.1 k))
      (λ m. subst (λ y. Lacks y xs) (sym (is.loose d lt (Lacks-append d xs (flat rows) l m))) l)
      (has_cases d (flat rows)))))
      (has_cases d xs)

  -- a dart in it and a dart that is not are of two vertices
  pub other_vertex : (c d : ℕ) → Has c xs → Lacks d xs → labels (graph f n) c ≢ labels (graph f n) d
  other_vertex c d h l e =
      false≢true (sym (has_no d xs l)
      ∙ sym (same_labels (λ y. has y xs) (graph f n) c d (Respects-graph (λ y. has y xs) f n stays_in) e)
      ∙ has_yes c xs h)

  -- two darts of one list are of one vertex
  pub one_vertex : (c d : ℕ) → Has c xs → Has d xs → labels (graph f n) c ≡ labels (graph f n) d
  one_vertex c d hc hd =
      let r = follow-reaches xs c d is.rings.0.distinct hc hd in
      labels_reached n f (IsMapOf-Permutes n f (xs ∷ rows) is) c d
      (below_item n c (xs ++ flat rows) is.below (Has-append_left c xs (flat rows) hc))
      (r.0, iterate_in_list xs f is.rings.0.along r.0 c hc ∙ r.1)

-- some of the items of a map in other lists: there is a map with these
pub IsMapOf-some : (n : ℕ) (f : ℕ → ℕ) (rows rows' : List (List ℕ)) → IsMapOf n f rows → Distinct (flat rows')
    → ((d : ℕ) → Has d (flat rows') → Has d (flat rows)) → IsMapOf n (next_by rows') rows'
IsMapOf-some n f rows rows' is dis some =
    IsMapOf-by n rows' dis (Below-from n (flat rows') (λ d h. below_item n d (flat rows) is.below (some d h)))

-- a map has a list among the others in front
pub IsMapOf-front : (n : ℕ) (f : ℕ → ℕ) (xs : List ℕ) (rows others : List (List ℕ))
    → IsMapOf n f (rows ++ xs ∷ others) → IsMapOf n f (xs ∷ (rows ++ others))
IsMapOf-front n f xs rows others is = IsMapOf-other n f (rows ++ xs ∷ others) is (xs ∷ (rows ++ others))
    (λ d h. subst (Has d) (sym (flat-append rows (xs ∷ others)))
    (Has-swapped d xs (flat rows) (flat others) (subst (λ ys. Has d (xs ++ ys)) (flat-append rows others) h)))
    (λ d h. subst (λ ys. Has d (xs ++ ys)) (sym (flat-append rows others))
    (Has-swapped d (flat rows) xs (flat others) (subst (Has d) (flat-append rows (xs ∷ others)) h)))
    (subst (λ ys. Distinct (xs ++ ys)) (sym (flat-append rows others))
    (Distinct-swapped (flat rows) xs (flat others) (subst Distinct (flat-append rows (xs ∷ others)) is.once)))
    (let r : Rings f (xs ∷ others) = Rings-append_right f rows (xs ∷ others) is.rings in
    (r.0, Rings-append f rows others (Rings-append_left f rows (xs ∷ others) is.rings) r.1))

-- a map has its first list among the others
pub IsMapOf-among : (n : ℕ) (f : ℕ → ℕ) (xs : List ℕ) (rows others : List (List ℕ))
    → IsMapOf n f (xs ∷ (rows ++ others)) → IsMapOf n f (rows ++ xs ∷ others)
IsMapOf-among n f xs rows others is = IsMapOf-other n f (xs ∷ (rows ++ others)) is (rows ++ xs ∷ others)
    (λ d h. subst (λ ys. Has d (xs ++ ys)) (sym (flat-append rows others))
    (Has-swapped d (flat rows) xs (flat others) (subst (Has d) (flat-append rows (xs ∷ others)) h)))
    (λ d h. subst (Has d) (sym (flat-append rows (xs ∷ others)))
    (Has-swapped d xs (flat rows) (flat others) (subst (λ ys. Has d (xs ++ ys)) (flat-append rows others) h)))
    (subst Distinct (sym (flat-append rows (xs ∷ others)))
    (Distinct-swapped xs (flat rows) (flat others)
    (subst (λ ys. Distinct (xs ++ ys)) (flat-append rows others) is.once)))
    (Rings-append f rows (xs ∷ others) (Rings-append_left f rows others is.rings.1)
    (is.rings.0, Rings-append_right f rows others is.rings.1))

-- a map has two groups of lists in the other order
pub IsMapOf-exchanged : (n : ℕ) (f : ℕ → ℕ) (first group others : List (List ℕ))
    → IsMapOf n f (first ++ (group ++ others)) → IsMapOf n f (first ++ (others ++ group))
IsMapOf-exchanged n f first [] others is = subst (λ us. IsMapOf n f (first ++ us)) (sym (append-nil others)) is
IsMapOf-exchanged n f first (xs ∷ group) others is =
    let rest : IsMapOf n f (xs ∷ (first ++ (others ++ group))) =
    IsMapOf-exchanged n f (xs ∷ first) group others (IsMapOf-front n f xs first (group ++ others) is) in
    subst (IsMapOf n f) (append_assoc first others (xs ∷ group))
    (IsMapOf-among n f xs (first ++ others) group
    (subst (λ us. IsMapOf n f (xs ∷ us)) (sym (append_assoc first others group)) rest))
