-- The first item of a list of one item.
use Rattle.std.proofs.Common.{◌≡◌, ℕ, List, [], ◌∷◌, length, slice_index, slice_index_or, ap, ◌∙◌, arith}

-- what a list of one item has at its first place, under another name of the list
pub first_item : (xs live : List ℕ) (first : ℕ) → length live ≡ 1 → first ≡ slice_index_or xs 0 first → xs ≡ live
    → first ≡ slice_index live 0
first_item [] live first one is same = absurd (omega (arith, one, ap length same))
first_item (x ∷ xs) live first one is same = is ∙ ap (λ (zs : List ℕ). slice_index zs 0) same
