-- Lists of bytes cut at a byte.
use Rattle.std.proofs.Common.{◌≡◌, ◌≢◌, ℕ, ◌+◌, ◌<◌, eqb, Bool, true, false, cond, List, [], ◌∷◌, ◌++◌, Some, None, Option, take, drop, get_or, refl, sym, ap, ◌∙◌, eq-eqb, arith, Bor, MatchOption}
use Rattle.std.specs.Prelude.{position}
use Rattle.std.specs.List.{AllByRecursion, slice_split, position_from}
use Rattle.std.proofs.lemmas.Bool.{eqb-false, ne_eqb, eqb-true}
use Rattle.std.proofs.lemmas.Iterator.Adapters.{position_from-zero}
use Rattle.std.proofs.lemmas.List.{drop_more, get_or_default, take-append-drop, get_or-take, length-take, append_cancel_left}
use Rattle.std.proofs.lemmas.List.Quantifiers.{position-Some}
use Rattle.std.proofs.lemmas.List.Elements.{All-from_recursion, recursion_from_All}
use Rattle.std.proofs.lemmas.List.Splits.{slice_split_none, slice_split_at}
use Rattle.cp_trace.specs.Reading.{Lacks}

-- a first byte, and then bytes among which the place is sought: where it is not found, the byte stands nowhere
lacks_step : (c i x : ℕ) (xs : List ℕ) (b : Bool) → eqb x c ≡ b →
    ((j : ℕ) → position_from (λ y. eqb y c) j xs ≡ None → Lacks c xs) → cond b (Some i)
    (position_from (λ y. eqb y c) (i + 1) xs) ≡ None → Lacks c (x ∷ xs)
lacks_step c i x xs true e rest h = absurd (cc)
lacks_step c i x xs false e rest h = (eqb-false x c e, rest (i + 1) h)

-- where the place of the byte is not found, it stands nowhere
lacks_from : (c : ℕ) (xs : List ℕ) (i : ℕ) → position_from (λ y. eqb y c) i xs ≡ None → Lacks c xs
lacks_from c [] i h = tt
lacks_from c (x ∷ xs) i h = lacks_step c i x xs (eqb x c) refl (lacks_from c xs) h

-- the same for places that are counted from 0
pub lacks_from_none : (c : ℕ) (xs : List ℕ) → position (λ y. eqb y c) xs ≡ None → Lacks c xs
lacks_from_none c xs h = lacks_from c xs 0 (sym (position_from-zero (λ y. eqb y c) xs) ∙ h)

-- the byte does not stand before its first place
pub lacks_before : (c n : ℕ) (xs : List ℕ) → position (λ y. eqb y c) xs ≡ Some n → Lacks c (take n xs)
lacks_before c n xs h =
    let at = position-Some (λ y. eqb y c) xs n 0 h in
    recursion_from_All (λ y. y ≢ c) (take n xs) (λ k d lt e.
    let below : k < n = omega (arith, length-take n xs) in
    let same : get_or (take n xs) k d ≡ get_or xs k 0 = get_or_default (take n xs) k d 0 lt
    ∙ get_or-take n xs k 0 below in
    eqb-false (get_or xs k 0) c (at.2 k below) (sym same ∙ e))

-- at its first place stands the byte, and then what stands behind it
pub cut_back : (c n : ℕ) (xs : List ℕ) → position (λ y. eqb y c) xs ≡ Some n → drop n xs ≡ c ∷ drop (n + 1) xs
cut_back c n xs h =
    let at = position-Some (λ y. eqb y c) xs n 0 h in
    drop_more xs n 0 at.0 ∙ ap (λ y. y ∷ drop (n + 1) xs) (eqb-true (get_or xs n 0) c at.1)

-- the parts that the code takes are the two sides of the byte
pub joined_cut : (c n first : ℕ) (xs front back after : List ℕ) → position (λ y. eqb y c) xs ≡ Some n → front
    ≡ take n xs → back ≡ drop n xs → back ≡ first ∷ after → xs ≡ front ++ c ∷ after
joined_cut c n first xs front back after h in_front in_back split =
    let tail : c ∷ drop (n + 1) xs ≡ first ∷ after = sym (cut_back c n xs h) ∙ sym in_back ∙ split in
    let same : c ∷ after ≡ drop n xs = cc in
    sym (take-append-drop n xs) ∙ ap (λ ys. take n xs ++ ys) (sym same) ∙ ap (λ ys. ys ++ c ∷ after) (sym in_front)

-- where the byte stands nowhere, each test for it fails
lacks_tests : (c : ℕ) (xs : List ℕ) → Lacks c xs → AllByRecursion (λ y. eqb y c ≡ false) xs
lacks_tests c [] h = tt
lacks_tests c (x ∷ xs) h = (ne_eqb x c h.0, lacks_tests c xs h.1)

-- the part before the first such byte, and then the parts of what stands behind it
pub split_at_cut : (c : ℕ) (front back : List ℕ) → Lacks c front → slice_split (λ y. eqb y c) (front ++ c ∷ back)
    ≡ front ∷ slice_split (λ y. eqb y c) back
split_at_cut c front back h = slice_split_at (λ y. eqb y c) front c back
    (All-from_recursion (λ y. eqb y c ≡ false) front (lacks_tests c front h)) (eq-eqb c c refl)

-- without the byte there is one part
pub split_whole : (c : ℕ) (bytes : List ℕ) → Lacks c bytes → slice_split (λ y. eqb y c) bytes ≡ bytes ∷ []
split_whole c bytes h = slice_split_none (λ y. eqb y c) bytes
    (All-from_recursion (λ y. eqb y c ≡ false) bytes (lacks_tests c bytes h))

-- the byte stands nowhere in two lists, so nowhere in both together
pub lacks-append : (c : ℕ) (xs ys : List ℕ) → Lacks c xs → Lacks c ys → Lacks c (xs ++ ys)
lacks-append c [] ys h k = k
lacks-append c (x ∷ xs) ys h k = (h.0, lacks-append c xs ys h.1 k)

-- a cut at the first such byte is unique
pub cut_unique : (c : ℕ) (a b x y : List ℕ) → Lacks c a → Lacks c b → a ++ c ∷ x ≡ b ++ c ∷ y → (a ≡ b) × (x ≡ y)
cut_unique c [] [] x y la lb h = (refl, cc)
cut_unique c [] (z ∷ b) x y la lb h = absurd (lb.0 cc)
cut_unique c (z ∷ a) [] x y la lb h = absurd (la.0 cc)
cut_unique c (z ∷ a) (w ∷ b) x y la lb h =
    let head : z ≡ w = cc in
    let tails : a ++ c ∷ x ≡ b ++ c ∷ y = cc in
    let both = cut_unique c a b x y la.1 lb.1 tails in
    (ap (λ (n : ℕ). n ∷ a) head ∙ ap (λ (t : List ℕ). w ∷ t) both.0, both.1)

-- bytes do not lack one that stands among them
pub lacks_not : (c : ℕ) (a b : List ℕ) → Lacks c (a ++ c ∷ b) → ⊥
lacks_not c [] b h = h.0 refl
lacks_not c (x ∷ a) b h = lacks_not c a b h.1

-- a line feed behind the line
pub line_behind : (bytes line rest : List ℕ) (r : Option (Bor (List ℕ))) → bytes ≡ line ++ rest
    → MatchOption r ((after : List ℕ) → rest ≡ 10 ∷ after → ⊥) (λ x. rest ≡ 10 ∷ x.now)
    → MatchOption r ((after : List ℕ) → bytes ≡ line ++ 10 ∷ after → ⊥) (λ x. bytes ≡ line ++ 10 ∷ x.now)
line_behind bytes line rest None e h =
    λ after again. h after (append_cancel_left line rest (10 ∷ after) (sym e ∙ again))
line_behind bytes line rest (Some x) e h = e ∙ ap (λ t. line ++ t) h
