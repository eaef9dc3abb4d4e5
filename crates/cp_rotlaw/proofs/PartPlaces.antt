-- Numbers that are put into parts by a key, where a table tells the part of each key.
use Rattle.std.proofs.Common.{◌≡◌, ℕ, zero, suc, ◌+◌, ◌-◌, ◌<◌, ◌≤◌, Bool, true, false, List, [], ◌∷◌, ◌++◌, length, set, slice_index, slice_index_or, sym, refl, ap, ◌∙◌, subst, inl, inr, ⊎_elim, arith}
use Rattle.std.specs.Prelude.{replicate}
use Rattle.std.proofs.lemmas.Bool.{cases_eq, cases_lt, false≢true}
use Rattle.std.proofs.lemmas.List.{get_or-replicate, get_or_default, get_or_past, length-replicate, length-set, length_push}
use Rattle.cp_conn.specs.Grouping.{IsPart, IsPut}
use Rattle.cp_conn.proofs.Grouping.{AreGrouped-none, AreGrouped-put, AreGrouped-skip, IsPlaced-put, place-le}
use Rattle.cp_rotlaw.specs.StarParts.{ArePlaced}

-- no part yet
pub ArePlaced-none : (p : ℕ → Bool) (key : ℕ → ℕ) (size : ℕ) → ArePlaced p key size 0 (replicate size 0) 0
ArePlaced-none p key size = record {
  rows = [];
  counted = refl;
  grouped = AreGrouped-none p key;
  placed = record {
    size = length-replicate size none;
    none = λ l lt z i lti e. absurd (omega arith);
    some = λ l k lt e. absurd (omega (arith, get_or-replicate size l none none lt, e));
  };
  keys = λ d lt t. absurd (omega arith);
}
  where
    none : ℕ
    none = 0

-- a number that fails
pub ArePlaced-skip : (p : ℕ → Bool) (key : ℕ → ℕ) (size n : ℕ) (places : List ℕ) (parts : ℕ)
    → ArePlaced p key size n places parts → p n ≡ false → ArePlaced p key size (n + 1) places parts
ArePlaced-skip p key size n places parts a fails = record {
  rows = a.rows;
  counted = a.counted;
  grouped = AreGrouped-skip p key n a.rows a.grouped fails;
  placed = a.placed;
  keys = λ d lt t. ⊎_elim (λ e. absurd (false≢true (sym fails ∙ ap p (sym e) ∙ t))) (λ ne. a.keys d (omega arith) t)
      (cases_eq d n);
}

-- a number that is put into the part of its key
ArePlaced-put : (p : ℕ → Bool) (key : ℕ → ℕ) (size n : ℕ) (places : List ℕ) (parts : ℕ) (more : List (List ℕ))
    (moved : List ℕ) → (a : ArePlaced p key size n places parts) → p n ≡ true → key n < size
    → IsPut n (key n) a.rows places more moved → ArePlaced p key size (n + 1) moved (length more)
ArePlaced-put p key size n places parts more moved a t lt put = record {
  rows = more;
  counted = refl;
  grouped = AreGrouped-put p key size n a.rows places more moved a.grouped a.placed t lt put;
  placed = IsPlaced-put p key size n a.rows places more moved a.grouped a.placed lt put;
  keys = λ d ltd td. ⊎_elim (λ e. subst (λ (x : ℕ). key x < size) (sym e) lt) (λ ne. a.keys d (omega arith) td)
      (cases_eq d n);
}

-- a number whose key has a place
pub ArePlaced-old : (p : ℕ → Bool) (key : ℕ → ℕ) (size n : ℕ) (places : List ℕ) (parts : ℕ)
    → ArePlaced p key size n places parts → p n ≡ true → key n < size → 0 < slice_index places (key n)
    → ArePlaced p key size (n + 1) places parts
ArePlaced-old p key size n places parts a t lt some =
    let k : ℕ = slice_index places (key n) - 1 in
    let more : List (List ℕ) = set a.rows k (slice_index_or a.rows k [] ++ n ∷ []) in
    subst (ArePlaced p key size (n + 1) places) (length-set a.rows k (slice_index_or a.rows k [] ++ n ∷ []) ∙ a.counted)
    (ArePlaced-put p key size n places parts more places a t lt (inr (k, omega arith, refl, refl)))

-- a number whose key gets the next place
pub ArePlaced-new : (p : ℕ → Bool) (key : ℕ → ℕ) (size n : ℕ) (places : List ℕ) (parts : ℕ)
    → ArePlaced p key size n places parts → p n ≡ true → key n < size → slice_index places (key n) ≡ 0
    → ArePlaced p key size (n + 1) (set places (key n) (parts + 1)) (parts + 1)
ArePlaced-new p key size n places parts a t lt none =
    let more : List (List ℕ) = a.rows ++ (n ∷ []) ∷ [] in
    let count : length more ≡ parts + 1 = length_push a.rows (n ∷ []) ∙ ap (λ (m : ℕ). m + 1) a.counted in
    subst (ArePlaced p key size (n + 1) (set places (key n) (parts + 1))) count
    (ArePlaced-put p key size n places parts more (set places (key n) (parts + 1)) a t lt
    (inl (none, refl, ap (λ (m : ℕ). set places (key n) (m + 1)) (sym a.counted))))

-- numbers that rise are not below their places
rising-ge : (f : ℕ → ℕ) (m : ℕ) → ((i j : ℕ) → i < j → j < m → f i < f j) → (i : ℕ) → i < m → i ≤ f i
rising-ge f m rising zero lt = omega arith
rising-ge f m rising (suc i) lt =
    omega (arith, rising-ge f m rising i (omega arith), rising i (suc i) (omega arith) lt)

module _ (p : ℕ → Bool) (key : ℕ → ℕ) (size n : ℕ) (places : List ℕ) (parts : ℕ)
    (a : ArePlaced p key size n places parts) where
  -- the first number of a part
  abbrev first : ℕ → ℕ
  first i = slice_index (slice_index_or a.rows i []) 0

  -- it passes and has the key of the part
  first_is : (i : ℕ) → i < parts → (first i < n) × (p (first i) ≡ true)
  first_is i lt =
      let part : IsPart p key n (slice_index_or a.rows i []) = a.grouped.each i (omega (arith, a.counted)) in
      let m = part.member 0 part.filled in
      (m.0, m.1)

  -- there are not more parts than numbers
  pub parts-le : parts ≤ n
  parts-le = ⊎_elim
      (λ none. omega arith)
      (λ some. omega (
        arith,
        (first_is (parts - 1) (omega arith)).0,
        rising-ge first parts (λ i j lt ltj. a.grouped.by_least i j lt (omega (arith, a.counted))) (parts - 1)
            (omega arith),
      ))
      (cases_eq parts 0)

  -- what is told beyond the keys
  past : (k : ℕ) → size ≤ k → slice_index places k ≡ 0
  past k le = get_or_past places k 0 (omega (arith, a.placed.size))

  -- a place is at most the number of parts
  pub place-within : (k : ℕ) → slice_index places k ≤ parts
  place-within k = ⊎_elim
      (λ lt. omega (arith, place-le key size k a.rows places a.placed lt, a.counted))
      (λ ge. omega (arith, past k (omega arith)))
      (cases_lt k size)

  -- a key with a place is that of the first number of its part
  key_of_place : (k i : ℕ) → slice_index places k ≡ suc i → (i < parts) × (key (first i) ≡ k)
  key_of_place k i e = ⊎_elim
      (λ lt. let s = a.placed.some k i lt e in (omega (arith, s.0, a.counted), s.1))
      (λ ge. absurd (omega (arith, past k (omega arith), e)))
      (cases_lt k size)

  -- different keys have different places
  pub place-apart : (k l : ℕ) → 0 < slice_index places k → slice_index places k ≡ slice_index places l → k ≡ l
  place-apart k l lt e =
      sym (key_of_place k (slice_index places k - 1) (omega arith)).1
      ∙ (key_of_place l (slice_index places k - 1) (omega (arith, e))).1

  -- a key with a place is that of a number that passes
  pub place-some : (k : ℕ) → 0 < slice_index places k → (d : ℕ) × (d < n) × (p d ≡ true) × (key d ≡ k)
  place-some k lt =
      let s = key_of_place k (slice_index places k - 1) (omega arith) in
      let f = first_is (slice_index places k - 1) s.0 in
      (first (slice_index places k - 1), f.0, f.1, s.1)

  -- a number that passes is in the part of its key, not before the first there
  part_of_number : (d : ℕ) → d < n → p d ≡ true
      → (i : ℕ) × (i < parts) × (key (first i) ≡ key d) × (first i ≤ d)
  part_of_number d lt t =
      let h = a.grouped.all d lt t in
      let part : IsPart p key n (slice_index_or a.rows h.0 []) = a.grouped.each h.0 h.1 in
      let at : ℕ = h.2.0 in
      let is : slice_index (slice_index_or a.rows h.0 []) at ≡ d =
      get_or_default (slice_index_or a.rows h.0 []) at 0 d h.2.1 ∙ h.2.2 in (
        h.0,
        omega (arith, h.1, a.counted),
        sym (part.member at h.2.1).2 ∙ ap key is,
        ⊎_elim
            (λ e. omega (arith, is, ap (slice_index (slice_index_or a.rows h.0 [])) e))
            (λ ne. omega (arith, is, part.rising 0 at (omega arith) h.2.1))
            (cases_eq at 0),
      )

  -- the place of its key is that of the part
  pub place_of_number : (d : ℕ) → d < n → p d ≡ true
      → (i : ℕ) × (slice_index places (key d) ≡ suc i) × (i < parts) × (first i ≤ d)
  place_of_number d lt t =
      let h = part_of_number d lt t in
      let k : ℕ = slice_index places (key d) in
      ⊎_elim
      (λ z. absurd (a.placed.none (key d) (a.keys d lt t) z h.0 (omega (arith, h.1, a.counted)) h.2))
      (λ ne.
      let s = key_of_place (key d) (k - 1) (omega arith) in
      let same : k - 1 ≡ h.0 =
      a.grouped.apart (k - 1) h.0 (omega (arith, s.0, a.counted)) (omega (arith, h.1, a.counted))
      (s.1 ∙ sym h.2) in
      (k - 1, omega arith, s.0, omega (arith, ap first same, h.3)))
      (cases_eq k 0)

  -- so a number that passes has a place
  pub place-seen : (d : ℕ) → d < n → p d ≡ true → 0 < slice_index places (key d)
  place-seen d lt t = let h = place_of_number d lt t in omega (arith, h.1)

  -- each part has a least number
  pub place-least : (i : ℕ) → i < parts
      → (d : ℕ) × (d < n) × (p d ≡ true) × (slice_index places (key d) ≡ suc i)
      × ((f : ℕ) → f < n → p f ≡ true → i < slice_index places (key f) → d ≤ f)
  place-least i lt =
      let f = first_is i lt in
      let h = place_of_number (first i) f.0 f.1 in
      let s = key_of_place (key (first i)) h.0 h.1 in
      let same : h.0 ≡ i =
      a.grouped.apart h.0 i (omega (arith, h.2, a.counted)) (omega (arith, lt, a.counted)) s.1 in (
        first i,
        f.0,
        f.1,
        h.1 ∙ ap suc same,
        λ g ltg tg above.
            let q = place_of_number g ltg tg in
            ⊎_elim
            (λ e. omega (arith, q.3, ap first e))
            (λ ne. omega (
              arith,
              q.3,
              a.grouped.by_least i q.0 (omega (arith, q.1, above, ne)) (omega (arith, q.2, a.counted)),
            ))
            (cases_eq i q.0),
      )
