-- A value that does not cross in a list does not in the list in reverse, nor under other names.
use Rattle.std.proofs.Common.{◌≡◌, ℕ, eqb, List, map, reverse, sym, ap, ◌∙◌}
use Rattle.cp_lists.specs.Crossings.{NoCross}
use Rattle.cp_lists.specs.CyclicLists.{Has}
use Rattle.cp_lists.proofs.Crossings.{Crosses-map, Crosses-weaker, NoCross-from, NoCross-uncrossed, map-Crosses, reverse-Crosses}

-- in reverse
pub NoCross-reverse : (value : ℕ → ℕ) (xs : List ℕ) → NoCross value xs → NoCross value (reverse xs)
NoCross-reverse value xs apart = NoCross-from value (reverse xs) (λ k m ne cross.
    NoCross-uncrossed value xs k m apart ne
    (reverse-Crosses (λ x. eqb (value x) k) (λ x. eqb (value x) m) xs cross))

-- under other names that have the value of the items
pub NoCross-map : (f value named : ℕ → ℕ) (xs : List ℕ) → ((x : ℕ) → Has x xs → named (f x) ≡ value x)
    → NoCross value xs → NoCross named (map f xs)
NoCross-map f value named xs same apart = NoCross-from named (map f xs) (λ k m ne cross.
    NoCross-uncrossed value xs k m apart ne
    (Crosses-weaker (λ x. eqb (named (f x)) k) (λ x. eqb (named (f x)) m) (λ x. eqb (value x) k)
    (λ x. eqb (value x) m) xs (λ x h t. ap (λ v. eqb v k) (sym (same x h)) ∙ t)
    (λ x h t. ap (λ v. eqb v m) (sym (same x h)) ∙ t)
    (map-Crosses f (λ y. eqb (named y) k) (λ y. eqb (named y) m) xs cross)))

-- and back
pub map-NoCross : (f value named : ℕ → ℕ) (xs : List ℕ) → ((x : ℕ) → Has x xs → named (f x) ≡ value x)
    → NoCross named (map f xs) → NoCross value xs
map-NoCross f value named xs same apart = NoCross-from value xs (λ k m ne cross.
    NoCross-uncrossed named (map f xs) k m apart ne
    (Crosses-map f (λ y. eqb (named y) k) (λ y. eqb (named y) m) xs
    (Crosses-weaker (λ x. eqb (value x) k) (λ x. eqb (value x) m) (λ x. eqb (named (f x)) k)
    (λ x. eqb (named (f x)) m) xs (λ x h t. ap (λ v. eqb v k) (same x h) ∙ t)
    (λ x h t. ap (λ v. eqb v m) (same x h) ∙ t) cross)))
