-- Some of the darts alone: what is flat stays flat.
use Rattle.std.proofs.Common.{◌≡◌, ℕ, ◌<◌, ◌≢◌, true, false, ◌||◌, eqb, List, [], ◌∷◌, ◌++◌, sym, refl, ap, ◌∙◌, subst, ⊎_elim, suc, ◌*◌, ◌≤◌, Bool, arith, zero, not, ◌&&◌, ltb, map, ap₂}
use Rattle.std.proofs.lemmas.Bool.{cases_eq, eq-eqb, ne_eqb, or_right, cases_lt, cases_Bool, lt-ltb, le-ltb}
use Rattle.std.specs.List.{filter}
use Rattle.cp_lists.specs.CyclicLists.{Distinct, Has, Lacks, but}
use Rattle.cp_lists.specs.Rows.{flat}
use Rattle.cp_lists.proofs.DistinctLists.{Has-append_left, Has-append_right, Has-but, Lacks-from, but-Distinct, but-Has, but-Lacks, has_lacks, has_other}
use Rattle.cp_lists.proofs.FilteredLists.{filter_agree, filter_all, filter_twice}
use Rattle.cp_lists.proofs.FlatLists.{flat-but}
use Rattle.cp_orbits.specs.Orbits.{Permutes, exchange, splice}
use Rattle.cp_orbits.proofs.Exchanges.{splice_at, splice_other}
use Rattle.cp_orbits.proofs.OrbitLaws.{exchange_left, exchange_other, exchange_right, label_step}
use Rattle.cp_faces.proofs.ListRotations.{follow-splice}
use Rattle.cp_maps.specs.Genus.{CanBeFlat, IsFlat}
use Rattle.cp_maps.specs.Maps.{Below, IsMapOf, Rings, swapped}
use Rattle.cp_maps.proofs.FlatMaps.{IsFlat-agree}
use Rattle.cp_maps.proofs.ListFacts.{Below-from, below_item}
use Rattle.cp_maps.proofs.MapLists.{IsMapOf-Permutes, IsMapOf-loose, IsMapOf-unbare, IsMapOf-unique, IsMapOf-unloose}
use Rattle.cp_maps.proofs.MergedVertices.{split_list-IsFlat, swapped_at_vertex-IsFlat}

-- a dart taken out: what is flat stays flat
pub dart_out-IsFlat : (e : ℕ) (f g : ℕ → ℕ) (x : ℕ) (xs : List ℕ) (rows : List (List ℕ))
    → IsMapOf (2 * e) f ((x ∷ xs) ∷ rows) → IsMapOf (2 * e) g (xs ∷ rows) → IsFlat e f → IsFlat e g
dart_out-IsFlat e f g x [] rows is_f is_g z =
    IsFlat-agree e f g (IsMapOf-Permutes (2 * e) f ((x ∷ []) ∷ rows) is_f)
    (IsMapOf-unique (2 * e) f rows (IsMapOf-unloose (2 * e) f x rows is_f) g (IsMapOf-unbare (2 * e) g rows is_g)) z
dart_out-IsFlat e f g x (a ∷ xs) rows is_f is_g z =
    split_list-IsFlat e f g x a [] xs rows is_f
    (IsMapOf-loose (2 * e) g ((a ∷ xs) ∷ rows) is_g x is_f.below.0 is_f.once.0) z

-- a dart of a map taken out, wherever it stands
module _ (n : ℕ) (f : ℕ → ℕ) (perm : Permutes n f) (z : ℕ) (ltz : z < n) where
  -- without it
  abbrev out : ℕ → ℕ
  out = swapped z (f z) f

  -- what leads to it goes on
  out_other : (d : ℕ) → d < n → d ≢ z → out d ≡ splice f z d
  out_other d lt ne = ⊎_elim
      (λ e. exchange_left z (f z) (f d) e ∙ sym (splice_at f z d e))
      (λ na. exchange_other z (f z) (f d) na (λ h. ne (perm.apart d z lt ltz h)) ∙ sym (splice_other f z d na))
      (cases_eq (f d) z)

  -- the rings without it
  Rings-but : (rows : List (List ℕ)) → Below n (flat rows) → Rings f rows → Rings out (map (but z) rows)
  Rings-but [] below rings = tt
  Rings-but (xs ∷ rows) below rings = (
    record {
      distinct = but-Distinct z xs rings.0.distinct;
      along = λ d h.
          let k : Has d xs = Has-but z d xs h in
          let ne : d ≢ z = has_other d z (but z xs) h (but-Lacks z xs) in
          out_other d (below_item n d (xs ++ flat rows) below (Has-append_left d xs (flat rows) k)) ne
          ∙ sym (follow-splice f z d xs rings.0.distinct ne k (rings.0.along d k) (rings.0.along z));
    },
    Rings-but rows (Below-from n (flat rows)
        (λ d h. below_item n d (xs ++ flat rows) below (Has-append_right d xs (flat rows) h))) rings.1,
  )

  -- a map with a dart taken out has the lists without it
  pub IsMapOf-but : (rows : List (List ℕ)) → IsMapOf n f rows → IsMapOf n out (map (but z) rows)
  IsMapOf-but rows is = record {
    once = subst Distinct (sym (flat-but z rows)) (but-Distinct z (flat rows) is.once);
    below =
        Below-from n (flat (map (but z) rows))
        (λ d h. below_item n d (flat rows) is.below (Has-but z d (flat rows) (subst (Has d) (flat-but z rows) h)));
    rings = Rings-but rows is.below is.rings;
    loose = λ d lt l. ⊎_elim
        (λ e. ap out e ∙ exchange_right z (f z) (f z) refl ∙ sym e)
        (λ ne.
        let stays : f d ≡ d =
        is.loose d lt (Lacks-from d (flat rows)
        (λ h. has_lacks d (but z (flat rows)) (but-Has z d (flat rows) ne h) (subst (Lacks d) (flat-but z rows) l))) in
        ap (exchange z (f z)) stays ∙ exchange_other z (f z) d ne (λ h. ne (perm.apart d z lt ltz (stays ∙ h))))
        (cases_eq d z);
  }

-- a flat map stays flat with a dart taken out
pub but-IsFlat : (e : ℕ) (f : ℕ → ℕ) (perm : Permutes (2 * e) f) (z : ℕ) → z < 2 * e → IsFlat e f
    → IsFlat e (swapped z (f z) f)
but-IsFlat e f perm z lt flat_f = ⊎_elim
    (λ (s : f z ≡ z). IsFlat-agree e f (swapped z (f z) f) perm (λ d ltd. sym (⊎_elim
    (λ h. exchange_left z (f z) (f d) h ∙ s ∙ sym h)
    (λ nh. exchange_other z (f z) (f d) nh (λ k. nh (k ∙ s)))
    (cases_eq (f d) z))) flat_f)
    (λ (ne : f z ≢ z). swapped_at_vertex-IsFlat e f perm z (f z) lt (perm.below z lt) (λ h. ne (sym h))
    (label_step f (2 * e) z lt) flat_f)
    (cases_eq (f z) z)

-- lists filtered alike
rows_alike : (n : ℕ) (p q : List ℕ → List ℕ) (rows : List (List ℕ)) → Below n (flat rows)
    → ((xs : List ℕ) → ((d : ℕ) → Has d xs → d < n) → p xs ≡ q xs) → map p rows ≡ map q rows
rows_alike n p q [] below same = refl
rows_alike n p q (xs ∷ rows) below same =
    ap₂ (λ ys zs. ys ∷ zs) (same xs
    (λ d h. below_item n d (xs ++ flat rows) below (Has-append_left d xs (flat rows) h)))
    (rows_alike n p q rows (Below-from n (flat rows)
    (λ d h. below_item n d (xs ++ flat rows) below (Has-append_right d xs (flat rows) h))) same)

-- a second map of lists
rows_twice : (p q r : List ℕ → List ℕ) (rows : List (List ℕ)) → ((xs : List ℕ) → q (p xs) ≡ r xs)
    → map q (map p rows) ≡ map r rows
rows_twice p q r [] same = refl
rows_twice p q r (xs ∷ rows) same = ap₂ (λ ys zs. ys ∷ zs) (same xs) (rows_twice p q r rows same)

-- none of them
rows_same : (n : ℕ) (p : List ℕ → List ℕ) (rows : List (List ℕ)) → Below n (flat rows)
    → ((xs : List ℕ) → ((d : ℕ) → Has d xs → d < n) → p xs ≡ xs) → map p rows ≡ rows
rows_same n p [] below same = refl
rows_same n p (xs ∷ rows) below same =
    ap₂ (λ ys zs. ys ∷ zs) (same xs
    (λ d h. below_item n d (xs ++ flat rows) below (Has-append_left d xs (flat rows) h)))
    (rows_same n p rows (Below-from n (flat rows)
    (λ d h. below_item n d (xs ++ flat rows) below (Has-append_right d xs (flat rows) h))) same)

-- the darts that the test keeps, in a map of e edges
module _ (e : ℕ) (f : ℕ → ℕ) (rows : List (List ℕ)) (is : IsMapOf (2 * e) f rows) (flat_f : IsFlat e f)
    (keep : ℕ → Bool) where
  -- kept, or not below k
  abbrev pass : ℕ → ℕ → Bool
  pass k x = keep x || not (ltb x k)

  -- a dart that is not below
  pass_above : (k x : ℕ) → k ≤ x → pass k x ≡ true
  pass_above k x le = or_right (keep x) (not (ltb x k)) (ap not (le-ltb x k le))

  -- a dart below
  pass_below : (k x : ℕ) → x < k → pass k x ≡ keep x
  pass_below k x lt = ap (λ b. keep x || not b) (lt-ltb x k lt)
      ∙ ⊎_elim (λ t. ap (λ b. b || false) t ∙ sym t) (λ u. ap (λ b. b || false) u ∙ sym u) (cases_Bool (keep x))

  -- one dart more
  pass_step : (k x : ℕ) → x ≢ k → pass (suc k) x ≡ pass k x
  pass_step k x ne =
      ⊎_elim (λ l. pass_below (suc k) x (omega arith) ∙ sym (pass_below k x l))
      (λ g. pass_above (suc k) x (omega arith) ∙ sym (pass_above k x g)) (cases_lt x k)

  -- one dart after another
  kept_upto : (k : ℕ) → k ≤ 2 * e → (h : ℕ → ℕ) × IsMapOf (2 * e) h (map (filter (pass k)) rows) × IsFlat e h
  kept_upto zero le = (
    f,
    subst (IsMapOf (2 * e) f)
        (sym (rows_same (2 * e) (filter (pass 0)) rows is.below
        (λ xs b. filter_all (pass 0) xs (λ d h. pass_above 0 d (omega arith))))) is,
    flat_f,
  )
  kept_upto (suc k) le =
      let h : (h : ℕ → ℕ) × IsMapOf (2 * e) h (map (filter (pass k)) rows) × IsFlat e h = kept_upto k (omega arith) in
      let perm : Permutes (2 * e) h.0 = IsMapOf-Permutes (2 * e) h.0 (map (filter (pass k)) rows) h.1 in
      ⊎_elim
      (λ t. (
        h.0,
        subst (IsMapOf (2 * e) h.0) (rows_alike (2 * e) (filter (pass k)) (filter (pass (suc k))) rows is.below
            (λ xs b. filter_agree (pass k) (pass (suc k)) xs (λ d hd.
            ⊎_elim (λ s. pass_above k d (omega arith) ∙ sym (pass_below (suc k) d (omega arith) ∙ ap keep s ∙ t))
            (λ ne. sym (pass_step k d ne)) (cases_eq d k)))) h.1,
        h.2,
      ))
      (λ u. (
        swapped k (h.0 k) h.0,
        subst (IsMapOf (2 * e) (swapped k (h.0 k) h.0))
            (rows_twice (filter (pass k)) (but k) (filter (pass (suc k))) rows
            (λ xs. filter_twice (pass k) (λ x. not (eqb x k)) (pass (suc k)) xs (λ x.
            ⊎_elim
            (λ s. pass_below (suc k) x (omega arith) ∙ ap keep s ∙ u
            ∙ sym (ap₂ (λ a b. a && not b) (pass_above k x (omega arith)) (eq-eqb x k s)))
            (λ ne. pass_step k x ne ∙ sym (ap (λ b. pass k x && not b) (ne_eqb x k ne)
            ∙ ⊎_elim (λ t. ap (λ b. b && true) t ∙ sym t) (λ z. ap (λ b. b && true) z ∙ sym z) (cases_Bool (pass k x))))
            (cases_eq x k))))
            (IsMapOf-but (2 * e) h.0 perm k (omega arith) (map (filter (pass k)) rows) h.1),
        but-IsFlat e h.0 perm k (omega arith) h.2,
      ))
      (cases_Bool (keep k))

  -- the lists of the darts that are kept have a flat map
  pub kept_darts-CanBeFlat : CanBeFlat e (map (filter keep) rows)
  kept_darts-CanBeFlat =
      let h : (h : ℕ → ℕ) × IsMapOf (2 * e) h (map (filter (pass (2 * e))) rows) × IsFlat e h =
      kept_upto (2 * e) (omega arith) in (
        h.0,
        subst (IsMapOf (2 * e) h.0) (rows_alike (2 * e) (filter (pass (2 * e))) (filter keep) rows is.below
            (λ xs b. filter_agree (pass (2 * e)) keep xs (λ d hd. pass_below (2 * e) d (b d hd)))) h.1,
        h.2,
      )

  -- what is flat stays flat where only some darts are kept
  pub kept_darts-IsFlat : (g : ℕ → ℕ) → IsMapOf (2 * e) g (map (filter keep) rows) → IsFlat e g
  kept_darts-IsFlat g is_g =
      let h : CanBeFlat e (map (filter keep) rows) = kept_darts-CanBeFlat in
      IsFlat-agree e h.0 g (IsMapOf-Permutes (2 * e) h.0 (map (filter keep) rows) h.1)
      (IsMapOf-unique (2 * e) h.0 (map (filter keep) rows) h.1 g is_g) h.2
