-- Lists of darts divided by parts.
use Rattle.std.proofs.Common.{◌≡◌, ◌≢◌, ℕ, suc, ◌+◌, ◌-◌, ◌<◌, ◌≤◌, Bool, true, false, ◌||◌, eqb, List, [], ◌∷◌, ◌++◌, length, take, drop, get_or, slice_index, slice_index_or, drop-cons, append_assoc, append-nil, sym, refl, ap, ap₂, ◌∙◌, subst, inl, ⊎_elim, arith}
use Rattle.std.proofs.lemmas.Bool.{cases_eq, cases_lt, eq-eqb, ne_eqb}
use Rattle.std.proofs.lemmas.List.{get_or_default, take_more}
use Rattle.std.proofs.lemmas.List.Elements.{filter-append}
use Rattle.std.specs.List.{filter}
use Rattle.cp_lists.specs.CyclicLists.{Distinct, Has, Lacks}
use Rattle.cp_lists.specs.Turns.{IsTurn}
use Rattle.cp_lists.proofs.DistinctLists.{Distinct-apart_right, Has-append_right, Has-place, Has_at, has_other}
use Rattle.cp_lists.proofs.FilteredLists.{filter_agree, filter_no, filter_yes}
use Rattle.cp_lists.proofs.TurnedLists.{turn-refl, turn_parts}
use Rattle.cp_rotlaw.specs.PoleClasses.{HasEndsApart, joined_rows}
use Rattle.cp_rotlaw.specs.StarParts.{AreRows, star_row}

-- the test for the darts of part c and the dart q
abbrev pub part_or : (ℕ → ℕ) → ℕ → ℕ → ℕ → Bool
part_or part c q d = eqb (part d) c || eqb d q

-- another dart than q passes it where it is of the part
part_or_other : (part : ℕ → ℕ) (c q d : ℕ) → d ≢ q → part_or part c q d ≡ eqb (part d) c
part_or_other part c q d ne = rw (ne_eqb d q ne) (or_false (eqb (part d) c))
  where
    or_false : (b : Bool) → (b || false) ≡ b
    or_false true = refl
    or_false false = refl

-- q passes it
part_or_same : (part : ℕ → ℕ) (c q : ℕ) → part_or part c q q ≡ true
part_or_same part c q = rw (eq-eqb q q refl) (or_true (eqb (part q) c))
  where
    or_true : (b : Bool) → (b || true) ≡ true
    or_true true = refl
    or_true false = refl

-- of a list with ends of two parts: some dart of another part than c stands, up to a turn, in front of those of part c
pub ends_turn : (part : ℕ → ℕ) (c : ℕ) (ws : List ℕ) → Distinct ws → HasEndsApart part ws
    → (q : ℕ) × Has q ws × (part q ≢ c) × IsTurn (filter (part_or part c q) ws) (q ∷ star_row part ws c)
ends_turn part c ws dis ends = subst (λ zs. (q : ℕ) × Has q zs × (part q ≢ c)
    × IsTurn (filter (part_or part c q) zs) (q ∷ star_row part zs c)) (sym ends.whole)
    (⊎_elim by_back by_front (cases_eq (part ends.front) c))
  where
    a : ℕ
    a = ends.front

    b : ℕ
    b = ends.back

    is_part : ℕ → Bool
    is_part d = eqb (part d) c

    once : Distinct (a ∷ (ends.middle ++ b ∷ []))
    once = subst Distinct ends.whole dis

    by_front : part a ≢ c → (q : ℕ) × Has q (a ∷ (ends.middle ++ b ∷ [])) × (part q ≢ c)
        × IsTurn (filter (part_or part c q) (a ∷ (ends.middle ++ b ∷ [])))
        (q ∷ star_row part (a ∷ (ends.middle ++ b ∷ [])) c)
    by_front ne =
        let rest : List ℕ = ends.middle ++ b ∷ [] in
        let kept : filter (part_or part c a) (a ∷ rest) ≡ a ∷ filter is_part rest =
        filter_yes (part_or part c a) a rest (part_or_same part c a)
        ∙ ap (λ zs. a ∷ zs) (filter_agree (part_or part c a) is_part rest
        (λ d h. part_or_other part c a d (has_other d a rest h once.0))) in
        let row : star_row part (a ∷ rest) c ≡ filter is_part rest =
        filter_no is_part a rest (ne_eqb (part a) c ne) in (
          a,
          inl refl,
          ne,
          subst (λ zs. IsTurn zs (a ∷ star_row part (a ∷ rest) c)) (sym (kept ∙ ap (λ zs. a ∷ zs) (sym row)))
              (turn-refl (a ∷ star_row part (a ∷ rest) c)),
        )

    by_back : part a ≡ c → (q : ℕ) × Has q (a ∷ (ends.middle ++ b ∷ [])) × (part q ≢ c)
        × IsTurn (filter (part_or part c q) (a ∷ (ends.middle ++ b ∷ [])))
        (q ∷ star_row part (a ∷ (ends.middle ++ b ∷ [])) c)
    by_back e =
        let front : List ℕ = a ∷ ends.middle in
        let ne : part b ≢ c = λ s. ends.apart (e ∙ sym s) in
        let apart : Lacks b front = Distinct-apart_right b front (b ∷ []) once (inl refl) in
        let kept : filter (part_or part c b) (front ++ b ∷ []) ≡ filter is_part front ++ b ∷ [] =
        filter-append (part_or part c b) front (b ∷ [])
        ∙ ap (λ zs. filter (part_or part c b) front ++ zs) (filter_yes (part_or part c b) b [] (part_or_same part c b))
        ∙ ap (λ zs. zs ++ b ∷ []) (filter_agree (part_or part c b) is_part front
        (λ d h. part_or_other part c b d (has_other d b front h apart))) in
        let row : star_row part (front ++ b ∷ []) c ≡ filter is_part front =
        filter-append is_part front (b ∷ [])
        ∙ ap (λ zs. filter is_part front ++ zs) (filter_no is_part b [] (ne_eqb (part b) c ne))
        ∙ append-nil (filter is_part front) in (
          b,
          Has-append_right b front (b ∷ []) (inl refl),
          ne,
          subst (λ zs. IsTurn zs (b ∷ star_row part (front ++ b ∷ []) c)) (sym kept)
              (subst (λ zs. IsTurn (filter is_part front ++ b ∷ []) (b ∷ zs)) (sym row)
              (turn_parts (filter is_part front) (b ∷ []))),
        )

-- a property of all items, at their places
pub All-from : (P : ℕ → Type 0) (xs : List ℕ) → ((x : ℕ) → Has x xs → P x) → (k d : ℕ) → k < length xs
    → P (slice_index_or xs k d)
All-from P xs each k d lt = subst P (get_or_default xs k 0 d lt) (each (slice_index xs k) (Has_at xs k lt))

-- a list turned to its first item of another part than its first one has ends of two parts, where it has two parts
pub turned-HasEndsApart : (part : ℕ → ℕ) (xs : List ℕ) (k : ℕ) {ys : List ℕ} → k ≤ length xs
    → ((i : ℕ) → i < k → part (slice_index xs i) ≡ part (slice_index xs 0))
    → (k < length xs → part (slice_index xs k) ≢ part (slice_index xs 0)) → ys ≡ drop k xs ++ take k xs
    → (d f : ℕ) → Has d xs → Has f xs → part d ≢ part f → HasEndsApart part ys
turned-HasEndsApart part xs k {ys} le before apart ys_is d f hd hf differ = record {
  front = slice_index xs k;
  middle = drop (suc k) xs ++ take j xs;
  back = slice_index xs j;
  whole = ys_is
      ∙ ap₂ (λ us vs. us ++ vs) (drop-cons xs k 0 within)
      (ap (λ m. take m xs) k_is ∙ take_more xs j 0 (omega (arith, within, k_is)))
      ∙ ap (λ us. slice_index xs k ∷ us) (sym (append_assoc (drop (suc k) xs) (take j xs) (slice_index xs j ∷ [])));
  apart = λ e. apart within (e ∙ before j (omega (arith, k_is)));
}
  where
    within : k < length xs
    within = ⊎_elim
        (λ lt. lt)
        (λ ge.
        let pd = Has-place d xs hd in
        let pf = Has-place f xs hf in
        absurd (differ (ap part (sym pd.2) ∙ before pd.0 (omega (arith, pd.1, ge))
        ∙ sym (before pf.0 (omega (arith, pf.1, ge))) ∙ ap part pf.2)))
        (cases_lt k (length xs))

    j : ℕ
    j = k - 1

    k_is : k ≡ j + 1
    k_is = ⊎_elim
        (λ e. absurd (apart within (ap (λ m. part (slice_index xs m)) e)))
        (λ ne. omega (arith, ne))
        (cases_eq k 0)

-- the row of a part, as it is read
read_row : (part : ℕ → ℕ) (ws : List ℕ) (count p : ℕ) (rows : List (List ℕ)) (row : List ℕ)
    → AreRows part ws count rows → p < count → row ≡ get_or rows p row → row ≡ star_row part ws p
read_row part ws count p rows row are lt read =
    read ∙ get_or_default {X = List ℕ} rows p row [] (omega (arith, are.one_each)) ∙ are.told p lt

-- the row of the part of one dart of the order more is joined
pub joined_more : (part : ℕ → ℕ) (zs ws order : List ℕ) (count i : ℕ) (rows : List (List ℕ)) {row old new : List ℕ}
    → AreRows part ws count rows → i < length order → part (slice_index order (length order - 1 - i)) < count
    → row ≡ get_or rows (part (slice_index order (length order - 1 - i))) row
    → old ≡ joined_rows part zs ws (drop (length order - i) order) → new ≡ old ++ row
    → new ≡ joined_rows part zs ws (drop (length order - (i + 1)) order)
joined_more part zs ws order count i rows {row} {old} {new} are lt low read so_far is =
    let k : ℕ = length order - 1 - i in
    let here : length order - (i + 1) ≡ k = omega arith in
    let next : length order - i ≡ suc k = omega arith in
    is
    ∙ ap₂ (λ us vs. us ++ vs) (so_far ∙ ap (λ m. joined_rows part zs ws (drop m order)) next)
    (read_row part ws count (part (slice_index order k)) rows row are low read)
    ∙ ap (joined_rows part zs ws) (sym (drop-cons order k 0 (omega arith)))
    ∙ ap (λ m. joined_rows part zs ws (drop m order)) (sym here)
