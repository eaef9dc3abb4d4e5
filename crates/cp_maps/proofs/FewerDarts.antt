-- Lists that can be flat, with fewer darts.
use Rattle.std.proofs.Common.{◌≡◌, ℕ, ◌≢◌, List, [], ◌∷◌, ◌++◌, append_assoc, sym, subst, inr, ⊎_elim, ◌*◌, ◌↔◌}
use Rattle.std.proofs.lemmas.List.{append-nil}
use Rattle.cp_lists.specs.CyclicLists.{Has}
use Rattle.cp_lists.proofs.TurnedLists.{turn_parts}
use Rattle.cp_maps.specs.Genus.{CanBeFlat, IsFlat, IsPlane}
use Rattle.cp_maps.specs.Maps.{IsMapOf, next_by}
use Rattle.cp_maps.proofs.FlatMaps.{IsFlat-agree}
use Rattle.cp_maps.proofs.KeptDarts.{dart_out-IsFlat}
use Rattle.cp_maps.proofs.ListFacts.{from_dart, other_item}
use Rattle.cp_maps.proofs.MapLists.{IsMapOf-Permutes, IsMapOf-front, IsMapOf-some, IsMapOf-swap, IsMapOf-third, IsMapOf-turn, IsMapOf-unbare, IsMapOf-unique}

-- lists are plane exactly where each map with these lists is flat
pub IsPlane-IsFlat : (e : ℕ) (f : ℕ → ℕ) (rows : List (List ℕ)) → IsMapOf (2 * e) f rows
    → IsMapOf (2 * e) (next_by rows) rows → IsFlat e f ↔ IsPlane e rows
IsPlane-IsFlat e f rows is by = (
  IsFlat-agree e f (next_by rows) (IsMapOf-Permutes (2 * e) f rows is)
      (IsMapOf-unique (2 * e) f rows is (next_by rows) by),
  IsFlat-agree e (next_by rows) f (IsMapOf-Permutes (2 * e) (next_by rows) rows by)
      (IsMapOf-unique (2 * e) (next_by rows) rows by f is),
)

-- each map with lists that can be flat is flat
pub CanBeFlat-IsFlat : (e : ℕ) (f : ℕ → ℕ) (rows : List (List ℕ)) → IsMapOf (2 * e) f rows → CanBeFlat e rows
    → IsFlat e f
CanBeFlat-IsFlat e f rows is can =
    IsFlat-agree e can.0 f (IsMapOf-Permutes (2 * e) can.0 rows can.1)
    (IsMapOf-unique (2 * e) can.0 rows can.1 f is) can.2

-- the first darts of a list taken out: it still can be flat
pub first_out-CanBeFlat : (e : ℕ) (xs zs : List ℕ) (rows : List (List ℕ)) → CanBeFlat e ((xs ++ zs) ∷ rows)
    → CanBeFlat e (zs ∷ rows)
first_out-CanBeFlat e [] zs rows can = can
first_out-CanBeFlat e (x ∷ xs) zs rows can =
    let less : List (List ℕ) = (xs ++ zs) ∷ rows in
    let is : IsMapOf (2 * e) (next_by less) less =
    IsMapOf-some (2 * e) can.0 ((x ∷ (xs ++ zs)) ∷ rows) less can.1 can.1.once.1 (λ d h. inr h) in
    first_out-CanBeFlat e xs zs rows
    (next_by less, is, dart_out-IsFlat e can.0 (next_by less) x (xs ++ zs) rows can.1 is can.2)

-- lists can be flat with the first of them turned
pub turned-CanBeFlat : (e : ℕ) (xs ys : List ℕ) (rows : List (List ℕ)) → CanBeFlat e ((xs ++ ys) ∷ rows)
    → CanBeFlat e ((ys ++ xs) ∷ rows)
turned-CanBeFlat e xs ys rows can =
    (can.0, IsMapOf-turn (2 * e) can.0 (xs ++ ys) (ys ++ xs) rows (turn_parts xs ys) can.1, can.2)

-- the darts behind the first taken out, and the first put last
pub next_kept-CanBeFlat : (e : ℕ) (a : ℕ) (xs zs : List ℕ) (rows : List (List ℕ))
    → CanBeFlat e ((a ∷ (xs ++ zs)) ∷ rows) → CanBeFlat e ((zs ++ a ∷ []) ∷ rows)
next_kept-CanBeFlat e a xs zs rows can =
    first_out-CanBeFlat e xs (zs ++ a ∷ []) rows
    (subst (λ ws. CanBeFlat e (ws ∷ rows)) (append_assoc xs zs (a ∷ []))
    (turned-CanBeFlat e (a ∷ []) (xs ++ zs) rows can))

-- all but two darts of a list taken out: it still can be flat
pub two_kept-CanBeFlat : (e : ℕ) (a b : ℕ) (xs : List ℕ) (rows : List (List ℕ)) → a ≢ b → Has a xs → Has b xs
    → CanBeFlat e (xs ∷ rows) → CanBeFlat e ((a ∷ b ∷ []) ∷ rows)
two_kept-CanBeFlat e a b xs rows differ ha hb can =
    let s : (us : List ℕ) × (vs : List ℕ) × (xs ≡ us ++ a ∷ vs) = from_dart a xs ha in
    let hb' : Has b (s.1 ++ s.0) = ⊎_elim (λ k. absurd (differ k)) (λ k. k) (other_item b a xs s.0 s.1 s.2 hb) in
    let t : (us : List ℕ) × (vs : List ℕ) × (s.1 ++ s.0 ≡ us ++ b ∷ vs) = from_dart b (s.1 ++ s.0) hb' in
    let one : CanBeFlat e ((a ∷ (t.0 ++ b ∷ t.1)) ∷ rows) =
    subst (λ ws. CanBeFlat e ((a ∷ ws) ∷ rows)) t.2
    (turned-CanBeFlat e s.0 (a ∷ s.1) rows (subst (λ ws. CanBeFlat e (ws ∷ rows)) s.2 can)) in
    let two : CanBeFlat e ((b ∷ (t.1 ++ a ∷ [])) ∷ rows) = next_kept-CanBeFlat e a t.0 (b ∷ t.1) rows one in
    next_kept-CanBeFlat e b t.1 (a ∷ []) rows two

-- lists can be flat with the first two in the other order
pub swapped_lists-CanBeFlat : (e : ℕ) (xs ys : List ℕ) (rows : List (List ℕ)) → CanBeFlat e (xs ∷ ys ∷ rows)
    → CanBeFlat e (ys ∷ xs ∷ rows)
swapped_lists-CanBeFlat e xs ys rows can = (can.0, IsMapOf-swap (2 * e) can.0 xs ys rows can.1, can.2)

-- lists can be flat with the third in front
pub third_list-CanBeFlat : (e : ℕ) (xs ys zs : List ℕ) (rows : List (List ℕ)) → CanBeFlat e (xs ∷ ys ∷ zs ∷ rows)
    → CanBeFlat e (zs ∷ xs ∷ ys ∷ rows)
third_list-CanBeFlat e xs ys zs rows can = (can.0, IsMapOf-third (2 * e) can.0 xs ys zs rows can.1, can.2)

-- the first lists of those that can be flat can be flat
pub first_lists-CanBeFlat : (e : ℕ) (rows others : List (List ℕ)) → CanBeFlat e (rows ++ others) → CanBeFlat e rows
first_lists-CanBeFlat e rows [] can = subst (CanBeFlat e) (append-nil rows) can
first_lists-CanBeFlat e rows (xs ∷ others) can =
    let front : CanBeFlat e (xs ∷ (rows ++ others)) =
    (can.0, IsMapOf-front (2 * e) can.0 xs rows others can.1, can.2) in
    let bare : CanBeFlat e ([] ∷ (rows ++ others)) =
    first_out-CanBeFlat e xs [] (rows ++ others)
    (subst (λ ws. CanBeFlat e (ws ∷ (rows ++ others))) (sym (append-nil xs)) front) in
    first_lists-CanBeFlat e rows others (bare.0, IsMapOf-unbare (2 * e) bare.0 (rows ++ others) bare.1, bare.2)

-- and so can the last lists
pub last_lists-CanBeFlat : (e : ℕ) (rows others : List (List ℕ)) → CanBeFlat e (rows ++ others) → CanBeFlat e others
last_lists-CanBeFlat e [] others can = can
last_lists-CanBeFlat e (xs ∷ rows) others can =
    let bare : CanBeFlat e ([] ∷ (rows ++ others)) =
    first_out-CanBeFlat e xs [] (rows ++ others)
    (subst (λ ws. CanBeFlat e (ws ∷ (rows ++ others))) (sym (append-nil xs)) can) in
    last_lists-CanBeFlat e rows others (bare.0, IsMapOf-unbare (2 * e) bare.0 (rows ++ others) bare.1, bare.2)
