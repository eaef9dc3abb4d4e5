-- Arrangements under a map, in reverse, and with one run exchanged for another.
use Rattle.std.proofs.Common.{◌≡◌, ℕ, ◌⊎◌, ◌↔◌, List, [], ◌∷◌, ◌++◌, map, reverse, drop, append-nil, sym, refl, ap, ap₂, ◌∙◌, subst, inl, inr, ⊎_elim}
use Rattle.cp_lists.specs.CyclicLists.{Has, Distinct, head_or}
use Rattle.cp_lists.proofs.DistinctLists.{has_lacks, Lacks-from, Has-append_left, Has-append_right, Has-append_cases, Distinct-append, Distinct-append_left, Distinct-append_right, Distinct-apart}
use Rattle.cp_lists.proofs.MappedLists.{Has-map_on, map_on-Has, Distinct-map_on}
use Rattle.cp_lists.proofs.ReversedLists.{Has-reverse, reverse-Has, Distinct-reverse}
use Rattle.cp_embed.specs.Arrangements.{IsArrangementOf}

-- of two lists with the same items each arrangement of the one is one of the other
pub IsArrangementOf-items : (xs ys zs : List ℕ) → IsArrangementOf xs ys → ((d : ℕ) → Has d ys ↔ Has d zs)
    → IsArrangementOf xs zs
IsArrangementOf-items xs ys zs a same = record {
  distinct = a.distinct;
  items = λ d. ((λ h. (same d).0 ((a.items d).0 h)), (λ h. (a.items d).1 ((same d).1 h)));
}

-- an arrangement in reverse
pub IsArrangementOf-reverse : (xs ys : List ℕ) → IsArrangementOf xs ys → IsArrangementOf (reverse xs) ys
IsArrangementOf-reverse xs ys a = record {
  distinct = Distinct-reverse xs a.distinct;
  items = λ d. ((λ h. (a.items d).0 (reverse-Has d xs h)), (λ h. Has-reverse d xs ((a.items d).1 h)));
}

-- what is distinct under a map is distinct
pub Distinct-unmapped : (f : ℕ → ℕ) (xs : List ℕ) → Distinct (map f xs) → Distinct xs
Distinct-unmapped f [] dis = tt
Distinct-unmapped f (x ∷ xs) dis =
    (Lacks-from x xs (λ h. has_lacks (f x) (map f xs) (Has-map_on f x xs h) dis.0), Distinct-unmapped f xs dis.1)

-- a cut of a mapped list is a cut of the list
pub map_parts : (f : ℕ → ℕ) (xs us vs : List ℕ) → map f xs ≡ us ++ vs
    → (ps : List ℕ) × (qs : List ℕ) × (xs ≡ ps ++ qs) × (map f ps ≡ us) × (map f qs ≡ vs)
map_parts f xs [] vs e = ([], xs, refl, refl, e)
map_parts f [] (u ∷ us) vs e = absurd cc
map_parts f (x ∷ xs) (u ∷ us) vs e =
    let r = map_parts f xs us vs (ap (drop 1) e) in
    (x ∷ r.0, r.1, ap (λ ys. x ∷ ys) r.2, ap₂ (λ y ys. y ∷ ys) (ap (head_or u) e) r.3, r.4)

-- items of a mapped list are the images of some of its items
pub map_chosen : (f : ℕ → ℕ) (items ws : List ℕ) → ((k : ℕ) → Has k ws → Has k (map f items))
    → (xs : List ℕ) × (map f xs ≡ ws) × ((d : ℕ) → Has d xs → Has d items)
map_chosen f items [] each = ([], refl, λ d h. absurd h)
map_chosen f items (w ∷ ws) each =
    let c : (d : ℕ) × Has d items × (f d ≡ w) = map_on-Has f w items (each w (inl refl)) in
    let r = map_chosen f items ws (λ k h. each k (inr h)) in
    (c.0 ∷ r.0, ap₂ (λ y ys. y ∷ ys) c.2 r.1, λ d h. ⊎_elim (λ e. subst (λ y. Has y items) e c.1) (λ k. r.2 d k) h)

module _ (f : ℕ → ℕ) (items : List ℕ) where
  -- an arrangement under a map
  pub IsArrangementOf-map : (xs : List ℕ) → ((c d : ℕ) → Has c items → Has d items → f c ≡ f d → c ≡ d)
      → IsArrangementOf xs items → IsArrangementOf (map f xs) (map f items)
  IsArrangementOf-map xs apart a = record {
    distinct = Distinct-map_on f xs (λ c d hc hd e. apart c d ((a.items c).0 hc) ((a.items d).0 hd) e) a.distinct;
    items = λ k. (
      λ h. let c = map_on-Has f k xs h in subst (λ y. Has y (map f items)) c.2
          (Has-map_on f c.0 items ((a.items c.0).0 c.1)),
      λ h. let c = map_on-Has f k items h in subst (λ y. Has y (map f xs)) c.2
          (Has-map_on f c.0 xs ((a.items c.0).1 c.1)),
    );
  }

  -- a list whose images arrange those of the items arranges the items
  pub IsArrangementOf-unmap : (xs : List ℕ) → ((c d : ℕ) → Has c items → Has d xs → f c ≡ f d → c ≡ d)
      → IsArrangementOf (map f xs) (map f items) → IsArrangementOf xs items
  IsArrangementOf-unmap xs apart a = record {
    distinct = Distinct-unmapped f xs a.distinct;
    items = λ d. (
      λ h. let c = map_on-Has f (f d) items ((a.items (f d)).0 (Has-map_on f d xs h)) in
          subst (λ y. Has y items) (apart c.0 d c.1 h c.2) c.1,
      λ h. let c = map_on-Has f (f d) xs ((a.items (f d)).1 (Has-map_on f d items h)) in
          subst (λ y. Has y xs) (sym (apart d c.0 h c.1 (sym c.2))) c.1,
    );
  }

  -- each arrangement of the images is the image of an arrangement
  pub arrangement_unmapped : (ws : List ℕ) → ((c d : ℕ) → Has c items → Has d items → f c ≡ f d → c ≡ d)
      → IsArrangementOf ws (map f items) → (xs : List ℕ) × (map f xs ≡ ws) × IsArrangementOf xs items
  arrangement_unmapped ws apart a =
      let r = map_chosen f items ws (λ k h. (a.items k).0 h) in (
        r.0,
        r.1,
        IsArrangementOf-unmap r.0 (λ c d hc hd e. apart c d hc (r.2 d hd) e)
            (subst (λ us. IsArrangementOf us (map f items)) (sym r.1) a),
      )

-- a list that has exactly the items with P, with a run exchanged: where what goes has not Q, what comes has Q and not
-- P, and
-- all others have both or none, it then has exactly the items with Q
pub exchanged_run : (P Q : ℕ → Type 0) (fs us ms bs : List ℕ) → Distinct ms → ((d : ℕ) → Has d ms → Q d)
    → ((d : ℕ) → Has d ms → P d → ⊥) → ((d : ℕ) → Has d us → Q d → ⊥) → ((d : ℕ) → P d → Has d us ⊎ Q d)
    → ((d : ℕ) → Q d → Has d ms ⊎ P d) → Distinct (fs ++ (us ++ bs)) → ((d : ℕ) → Has d (fs ++ (us ++ bs)) ↔ P d)
    → Distinct (fs ++ (ms ++ bs)) × ((d : ℕ) → Has d (fs ++ (ms ++ bs)) ↔ Q d)
exchanged_run P Q fs us ms bs dis_ms new_in new_out gone stay back dis all = (
  Distinct-append fs (ms ++ bs) (Distinct-append_left fs (us ++ bs) dis)
      (Distinct-append ms bs dis_ms (Distinct-append_right us bs rest)
      (λ d h. Lacks-from d bs (λ k. new_out d h ((all d).0 (of_bs d k)))))
      (λ d h. Lacks-from d (ms ++ bs) (λ k. ⊎_elim
      (λ m. new_out d m ((all d).0 (of_fs d h)))
      (λ b. has_lacks d (us ++ bs) (Has-append_right d us bs b) (Distinct-apart d fs (us ++ bs) dis h))
      (Has-append_cases d ms bs k))),
  λ d. (
    λ h. ⊎_elim
        (λ k. ⊎_elim (λ u. absurd (has_lacks d (us ++ bs) (Has-append_left d us bs u)
        (Distinct-apart d fs (us ++ bs) dis k))) (λ q. q)
        (stay d ((all d).0 (of_fs d k))))
        (λ k. ⊎_elim (λ m. new_in d m)
        (λ b. ⊎_elim (λ u. absurd (has_lacks d bs b (Distinct-apart d us bs rest u))) (λ q. q)
        (stay d ((all d).0 (of_bs d b))))
        (Has-append_cases d ms bs k))
        (Has-append_cases d fs (ms ++ bs) h),
    λ q. ⊎_elim
        (λ m. Has-append_right d fs (ms ++ bs) (Has-append_left d ms bs m))
        (λ p. ⊎_elim
        (λ k. Has-append_left d fs (ms ++ bs) k)
        (λ k. ⊎_elim (λ u. absurd (gone d u q)) (λ b. Has-append_right d fs (ms ++ bs) (Has-append_right d ms bs b))
        (Has-append_cases d us bs k))
        (Has-append_cases d fs (us ++ bs) ((all d).1 p)))
        (back d q),
  ),
)
  where
    rest : Distinct (us ++ bs)
    rest = Distinct-append_right fs (us ++ bs) dis

    of_fs : (d : ℕ) → Has d fs → Has d (fs ++ (us ++ bs))
    of_fs d h = Has-append_left d fs (us ++ bs) h

    of_bs : (d : ℕ) → Has d bs → Has d (fs ++ (us ++ bs))
    of_bs d h = Has-append_right d fs (us ++ bs) (Has-append_right d us bs h)

-- a list without items is empty
empty_list : (xs : List ℕ) → ((d : ℕ) → Has d xs → ⊥) → xs ≡ []
empty_list [] none = refl
empty_list (x ∷ xs) none = absurd (none x (inl refl))

-- a run that has all items of an arrangement is the whole of it
pub whole_run : (front run behind items : List ℕ) → IsArrangementOf (front ++ (run ++ behind)) items
    → IsArrangementOf run items
    → front ++ (run ++ behind) ≡ run
whole_run front run behind items a b =
    let rest : Distinct (run ++ behind) = Distinct-append_right front (run ++ behind) a.distinct in
    ap₂ (λ us vs. us ++ (run ++ vs))
    (empty_list front (λ d h. has_lacks d (run ++ behind)
    (Has-append_left d run behind ((b.items d).1 ((a.items d).0 (Has-append_left d front (run ++ behind) h))))
    (Distinct-apart d front (run ++ behind) a.distinct h)))
    (empty_list behind (λ d h. has_lacks d behind h
    (Distinct-apart d run behind rest
    ((b.items d).1 ((a.items d).0 (Has-append_right d front (run ++ behind) (Has-append_right d run behind h)))))))
    ∙ append-nil run
