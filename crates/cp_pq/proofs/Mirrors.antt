-- Readings from right to left.
use Rattle.std.proofs.Common.{◌≡◌, ℕ, Bool, true, false, not, ◌↔◌, List, [], ◌∷◌, reverse, refl, sym, ap, ◌∙◌, subst, subst₂}
use Rattle.std.proofs.lemmas.List.{reverse-append, reverse-reverse}
use Rattle.std.proofs.lemmas.List.Sorted.{IsPermutation-trans, IsPermutation-reverse}
use Rattle.cp_pq.specs.declared.node.Node.{Node}
use Rattle.cp_pq.specs.Readings.{Reads, ReadsAll, leaf, any_order, forward, backward, none, more}
use Rattle.cp_pq.specs.Bits.{differ}
use Rattle.cp_pq.specs.Founds.{turn_ties}
use Rattle.cp_pq.specs.Words.{Licensed, IsLike, turned}
use Rattle.cp_pq.specs.Changes.{Wider}
use Rattle.cp_pq.proofs.ReadingLaws.{read_all_wider, ReadsAll_join, one_ReadsAll}

-- a bit turned twice
pub not_not : (b : Bool) → not (not b) ≡ b
not_not true = refl
not_not false = refl

-- a licence turned twice allows no more
pub turned_turned : (may : ℕ → Bool → Bool) → Wider (turned (turned may)) may
turned_turned may v b h = subst (λ z. may v z ≡ true) (not_not b) h

mutual
  -- a reading of a node from right to left is one by the turned licence
  pub mirror : (may : ℕ → Bool → Bool) (n : Node) (xs : List ℕ) → Reads may n xs → Reads (turned may) n (reverse xs)
  mirror may _ _ (leaf x) = leaf x
  mirror may _ _ (any_order o ks turn xs p all) = any_order o ks (reverse turn) (reverse xs) (IsPermutation-trans _ _ _ p (IsPermutation-reverse turn)) (mirror_all may turn xs all)
  mirror may _ _ (forward v ks xs m all) = backward v ks (reverse xs) m (mirror_all may ks xs all)
  mirror may _ _ (backward v ks xs m all) = forward v ks (reverse xs) m (subst (λ z. ReadsAll (turned may) z (reverse xs)) (reverse-reverse ks) (mirror_all may (reverse ks) xs all))

  -- and so for a row
  pub mirror_all : (may : ℕ → Bool → Bool) (ks : List Node) (xs : List ℕ) → ReadsAll may ks xs
      → ReadsAll (turned may) (reverse ks) (reverse xs)
  mirror_all may _ _ none = none
  mirror_all may _ _ (more k ks xs ys a b) =
      subst₂ (ReadsAll (turned may)) (sym (reverse-append (k ∷ []) ks)) (sym (reverse-append xs ys))
      (ReadsAll_join (turned may) (reverse ks) (k ∷ []) (reverse ys) (reverse xs) (mirror_all may ks ys b) (one_ReadsAll (turned may) k (reverse xs) (mirror may k xs a)))

-- a row read from right to left is its reverse read by the turned licence
pub mirror_row : (may : ℕ → Bool → Bool) (ks : List Node) (xs : List ℕ) → ReadsAll may (reverse ks) xs
    → ReadsAll (turned may) ks (reverse xs)
mirror_row may ks xs r = subst (λ z. ReadsAll (turned may) z (reverse xs)) (reverse-reverse ks) (mirror_all may (reverse ks) xs r)

-- and the other way round
pub mirror_back : (may : ℕ → Bool → Bool) (ks : List Node) (xs : List ℕ) → ReadsAll (turned may) ks (reverse xs)
    → ReadsAll may (reverse ks) xs
mirror_back may ks xs r = subst (ReadsAll may (reverse ks)) (reverse-reverse xs) (read_all_wider (turned (turned may)) may (turned_turned may) (reverse ks) (reverse (reverse xs)) (mirror_all (turned may) ks (reverse xs) r))

-- to turn the first of two bits turns whether they differ
flip_not : (d b : Bool) → differ (not d) b ≡ not (differ d b)
flip_not true b = sym (not_not b)
flip_not false b = refl

-- and it is one which of the two is turned
flip_turn : (d b : Bool) → differ d (not b) ≡ differ (not d) b
flip_turn true b = not_not b
flip_turn false b = refl

-- ties licensed by the turned licence are licensed turned
pub turned_licence : (d : Bool) (may : ℕ → Bool → Bool) (ts : List (ℕ × Bool)) → Licensed d (turned may) ts
    → Licensed (not d) may ts
turned_licence d may [] h = tt
turned_licence d may (t ∷ ts) h = (subst (λ z. may t.0 z ≡ true) (sym (flip_not d t.1)) h.0, turned_licence d may ts h.1)

-- and the other way round
pub licence_turned : (d : Bool) (may : ℕ → Bool → Bool) (ts : List (ℕ × Bool)) → Licensed (not d) may ts
    → Licensed d (turned may) ts
licence_turned d may [] h = tt
licence_turned d may (t ∷ ts) h = (subst (λ z. may t.0 z ≡ true) (flip_not d t.1) h.0, licence_turned d may ts h.1)

-- ties licensed turned are licensed when each of them is turned
pub ties_turned : (d : Bool) (may : ℕ → Bool → Bool) (ts : List (ℕ × Bool)) → Licensed (not d) may ts
    → Licensed d may (turn_ties ts)
ties_turned d may [] h = tt
ties_turned d may (t ∷ ts) h = (subst (λ z. may t.0 z ≡ true) (sym (flip_turn d t.1)) h.0, ties_turned d may ts h.1)

-- and the other way round
pub turned_ties : (d : Bool) (may : ℕ → Bool → Bool) (ts : List (ℕ × Bool)) → Licensed d may (turn_ties ts)
    → Licensed (not d) may ts
turned_ties d may [] h = tt
turned_ties d may (t ∷ ts) h = (subst (λ z. may t.0 z ≡ true) (flip_turn d t.1) h.0, turned_ties d may ts h.1)

-- a row that is like a line is like it from right to left too, under the condition of the turned licence
pub like_reverse : (test back : List ℕ → Bool) (L : (ℕ → Bool → Bool) → Type 0) (row line : List Node)
    → ((xs : List ℕ) → back (reverse xs) ≡ test xs) → IsLike test L row line
    → IsLike back (λ may. L (turned may)) (reverse row) (reverse line)
like_reverse test back L row line same h may xs = (to, fro)
  where
    agree : test (reverse xs) ≡ back xs
    agree = sym (same (reverse xs)) ∙ ap back (reverse-reverse xs)

    to : ReadsAll may (reverse row) xs × (back xs ≡ true) → L (turned may) × ReadsAll may (reverse line) xs
    to r = let g = (h (turned may) (reverse xs)).0 (mirror_row may row xs r.0, agree ∙ r.1) in (g.0, mirror_back may line xs g.1)

    fro : L (turned may) × ReadsAll may (reverse line) xs → ReadsAll may (reverse row) xs × (back xs ≡ true)
    fro r = let g = (h (turned may) (reverse xs)).1 (r.0, mirror_row may line xs r.1) in (mirror_back may row xs g.0, sym agree ∙ g.1)

-- a row that is like a line is like it under a condition that is equivalent
pub like_again : (test : List ℕ → Bool) (L M : (ℕ → Bool → Bool) → Type 0) (row line : List Node)
    → ((may : ℕ → Bool → Bool) → L may ↔ M may) → IsLike test L row line → IsLike test M row line
like_again test L M row line same h may xs = (
  λ r. let g = (h may xs).0 r in ((same may).0 g.0, g.1),
  λ r. (h may xs).1 ((same may).1 r.0, r.1),
)
