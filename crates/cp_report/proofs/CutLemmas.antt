-- Lists of bytes cut at a byte.
use Rattle.std.proofs.Common.{◌≡◌, ◌≢◌, ℕ, ◌+◌, ◌<◌, eqb, Bool, true, false, cond, List, [], ◌∷◌, ◌++◌, Some, None, Option, take, drop, get_or, refl, sym, ap, ◌∙◌, eq-eqb, ◌⊎◌, inl, inr, arith, Bor, MatchOption}
use Rattle.std.specs.Prelude.{position}
use Rattle.std.specs.List.{AllByRecursion, slice_split, position_from}
use Rattle.std.proofs.lemmas.Bool.{eqb-false, ne_eqb, eqb-true}
use Rattle.std.proofs.lemmas.Bool.Decides.{eqb_tells}
use Rattle.std.proofs.lemmas.Iterator.Adapters.{position_from-zero}
use Rattle.std.proofs.lemmas.List.{drop_more, get_or_default, take-append-drop, get_or-take, length-take, append_cancel_left}
use Rattle.std.proofs.lemmas.List.Quantifiers.{position-Some}
use Rattle.std.proofs.lemmas.List.Elements.{All-from_recursion, recursion_from_All}
use Rattle.std.proofs.lemmas.List.Splits.{slice_split_none, slice_split_at}
use Rattle.cp_report.specs.Reading.{Lacks}

-- one byte more before what is sought through
lacks_step : (c i x : ℕ) (xs : List ℕ) (b : Bool) → eqb x c ≡ b
    → ((j : ℕ) → position_from (λ y. eqb y c) j xs ≡ None → Lacks c xs)
    → cond b (Some i) (position_from (λ y. eqb y c) (i + 1) xs) ≡ None → Lacks c (x ∷ xs)
lacks_step c i x xs true e rest h = absurd (cc)
lacks_step c i x xs false e rest h = (eqb-false x c e, rest (i + 1) h)

-- a byte that is found nowhere is lacking
lacks_from : (c : ℕ) (xs : List ℕ) (i : ℕ) → position_from (λ y. eqb y c) i xs ≡ None → Lacks c xs
lacks_from c [] i h = tt
lacks_from c (x ∷ xs) i h = lacks_step c i x xs (eqb x c) refl (lacks_from c xs) h

-- a byte without a position is lacking
pub lacks_from_none : (c : ℕ) (xs : List ℕ) → position (λ y. eqb y c) xs ≡ None → Lacks c xs
lacks_from_none c xs h = lacks_from c xs 0 (sym (position_from-zero (λ y. eqb y c) xs) ∙ h)

-- a byte is lacking before its first position
pub lacks_before : (c n : ℕ) (xs : List ℕ) → position (λ y. eqb y c) xs ≡ Some n → Lacks c (take n xs)
lacks_before c n xs h =
    let at = position-Some (λ y. eqb y c) xs n 0 h in
    recursion_from_All (λ y. y ≢ c) (take n xs) (λ k d lt e.
    let below : k < n = omega (arith, length-take n xs) in
    let same : get_or (take n xs) k d ≡ get_or xs k 0 = get_or_default (take n xs) k d 0 lt
    ∙ get_or-take n xs k 0 below in
    eqb-false (get_or xs k 0) c (at.2 k below) (sym same ∙ e))

-- at its first position a byte stands
pub cut_back : (c n : ℕ) (xs : List ℕ) → position (λ y. eqb y c) xs ≡ Some n → drop n xs ≡ c ∷ drop (n + 1) xs
cut_back c n xs h =
    let at = position-Some (λ y. eqb y c) xs n 0 h in
    drop_more xs n 0 at.0 ∙ ap (λ y. y ∷ drop (n + 1) xs) (eqb-true (get_or xs n 0) c at.1)

-- the parts that the code takes are the two sides of the byte
pub joined_cut : (c n first : ℕ) (xs front back after : List ℕ) → position (λ y. eqb y c) xs ≡ Some n
    → front ≡ take n xs → back ≡ drop n xs → back ≡ first ∷ after → xs ≡ front ++ c ∷ after
joined_cut c n first xs front back after h in_front in_back split =
    let tail : c ∷ drop (n + 1) xs ≡ first ∷ after = sym (cut_back c n xs h) ∙ sym in_back ∙ split in
    let same : c ∷ after ≡ drop n xs = cc in
    sym (take-append-drop n xs) ∙ ap (λ ys. take n xs ++ ys) (sym same) ∙ ap (λ ys. ys ++ c ∷ after) (sym in_front)

-- bytes that lack one all fail the test for it
lacks_tests : (c : ℕ) (xs : List ℕ) → Lacks c xs → AllByRecursion (λ y. eqb y c ≡ false) xs
lacks_tests c [] h = tt
lacks_tests c (x ∷ xs) h = (ne_eqb x c h.0, lacks_tests c xs h.1)

-- bytes are split at the first place of the byte
pub split_at_cut : (c : ℕ) (front back : List ℕ) → Lacks c front
    → slice_split (λ y. eqb y c) (front ++ c ∷ back) ≡ front ∷ slice_split (λ y. eqb y c) back
split_at_cut c front back h = slice_split_at (λ y. eqb y c) front c back
    (All-from_recursion (λ y. eqb y c ≡ false) front (lacks_tests c front h)) (eq-eqb c c refl)

-- bytes that lack the byte are one piece
pub split_whole : (c : ℕ) (bytes : List ℕ) → Lacks c bytes → slice_split (λ y. eqb y c) bytes ≡ bytes ∷ []
split_whole c bytes h = slice_split_none (λ y. eqb y c) bytes (All-from_recursion (λ y. eqb y c ≡ false) bytes
    (lacks_tests c bytes h))

-- where both parts lack a byte, the whole does
pub lacks-append : (c : ℕ) (xs ys : List ℕ) → Lacks c xs → Lacks c ys → Lacks c (xs ++ ys)
lacks-append c [] ys h k = k
lacks-append c (x ∷ xs) ys h k = (h.0, lacks-append c xs ys h.1 k)

-- a list whose bytes lack c, or where c stands first
pub cut_or_whole : (c : ℕ) (xs : List ℕ) → Lacks c xs ⊎ ((front back : List ℕ) × Lacks c front
    × (xs ≡ front ++ c ∷ back))
cut_or_whole c [] = inl tt
cut_or_whole c (x ∷ xs) =
    elim (eqb_tells x c) [
      | inl same ↦ inr ([], xs, tt, ap (λ y. y ∷ xs) same.1)
      | inr other ↦ elim (cut_or_whole c xs) [
        | inl lacks ↦ inl (other.1, lacks)
        | inr cut ↦ inr (x ∷ cut.0, cut.1, (other.1, cut.2), ap (λ ys. x ∷ ys) cut.3)
      ]
    ]

-- a line feed behind the line
pub line_behind : (bytes line rest : List ℕ) (r : Option (Bor (List ℕ))) → bytes ≡ line ++ rest
    → MatchOption r ((after : List ℕ) → rest ≡ 10 ∷ after → ⊥) (λ x. rest ≡ 10 ∷ x.now)
    → MatchOption r ((after : List ℕ) → bytes ≡ line ++ 10 ∷ after → ⊥) (λ x. bytes ≡ line ++ 10 ∷ x.now)
line_behind bytes line rest None e h =
    λ after again. h after (append_cancel_left line rest (10 ∷ after) (sym e ∙ again))
line_behind bytes line rest (Some x) e h = e ∙ ap (λ t. line ++ t) h

-- the same as a test, for bytes that are known
abbrev pub has_none : ℕ → List ℕ → Bool
has_none c [] = true
has_none c (x ∷ xs) = cond (eqb x c) false (has_none c xs)

-- a test that must fail before the rest passes
cond_false : (b : Bool) (rest : Bool) → cond b false rest ≡ true → (b ≡ false) × (rest ≡ true)
cond_false true rest h = absurd cc
cond_false false rest h = (refl, h)

-- a test tells that a byte is lacking
pub lacks_by_test : (c : ℕ) (xs : List ℕ) → has_none c xs ≡ true → Lacks c xs
lacks_by_test c [] h = tt
lacks_by_test c (x ∷ xs) h =
    let both = cond_false (eqb x c) (has_none c xs) h in
    (eqb-false x c both.0, lacks_by_test c xs both.1)
