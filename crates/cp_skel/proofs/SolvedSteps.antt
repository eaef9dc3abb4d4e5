-- Steps of the lists that the layout of a solution is made of.
use Rattle.std.proofs.Common.{◌≡◌, ℕ, ◌+◌, ◌-◌, ◌*◌, ◌<◌, List, [], ◌∷◌, ◌++◌, length, map, take, sym, ap, ap₂, ◌∙◌, arith}
use Rattle.std.specs.Prelude.{eqb, slice_index}
use Rattle.std.specs.List.{range_with_len}
use Rattle.std.proofs.lemmas.Bool.{cond-false, cond-true, eq-eqb, ne_eqb}
use Rattle.std.proofs.lemmas.List.{map-append, take_more}
use Rattle.cp_cgraph.specs.Clustered.{Clustered, source}
use Rattle.cp_skel.specs.SolutionLayouts.{name_dart, name_edge}
use Rattle.cp_skel.proofs.GatheredLists.{range_more}

-- the images of one item more
pub images-more : (f : ℕ → ℕ) (xs : List ℕ) (i x : ℕ) (images new : List ℕ) → i < length xs
    → images ≡ map f (take i xs) → x ≡ f (slice_index xs i) → new ≡ images ++ x ∷ [] → new ≡ map f (take (i + 1) xs)
images-more f xs i x images new lt are is added =
    added
    ∙ ap₂ (λ (ys : List ℕ) (y : ℕ). ys ++ y ∷ []) are is
    ∙ sym (ap (map f) (take_more xs i 0 lt) ∙ map-append f (take i xs) (slice_index xs i ∷ []))

-- the images of the numbers from 1 on, and of one more
pub from_one-more : (f : ℕ → List ℕ) (c : ℕ) → 0 < c
    → map f (range_with_len 1 (c - 1)) ++ f c ∷ [] ≡ map f (range_with_len 1 (c + 1 - 1))
from_one-more f c above =
    ap (λ (m : ℕ). map f (range_with_len 1 (c - 1)) ++ f m ∷ []) (let h : c ≡ 1 + (c - 1) = omega arith in h)
    ∙ sym (ap (λ (m : ℕ). map f (range_with_len 1 m)) (let h : c + 1 - 1 ≡ c - 1 + 1 = omega arith in h)
    ∙ ap (map f) (range_more 1 (c - 1))
    ∙ map-append f (range_with_len 1 (c - 1)) ((1 + (c - 1)) ∷ []))

-- the dart of an edge at its source
pub dart-source : (g : Clustered) (v n e : ℕ) → e ≡ name_edge g n → source g e ≡ v → 2 * e ≡ name_dart g v n
dart-source g v n e is at =
    let first : ℕ = 0 in
    let second : ℕ = 1 in
    let here : source g (name_edge g n) ≡ v = ap (source g) (sym is) ∙ at in
    let none = cond-true (eqb (source g (name_edge g n)) v) first second (eq-eqb (source g (name_edge g n)) v here) in
    omega (arith, is, none)

-- and at its target
pub dart-target : (g : Clustered) (v n e : ℕ) → e ≡ name_edge g n → (source g e ≡ v → ⊥) → 2 * e + 1 ≡ name_dart g v n
dart-target g v n e is elsewhere =
    let first : ℕ = 0 in
    let second : ℕ = 1 in
    let one = cond-false (eqb (source g (name_edge g n)) v) first second
    (ne_eqb (source g (name_edge g n)) v (λ at. elsewhere (ap (source g) is ∙ at))) in
    omega (arith, is, one)
