-- Turns of a list.
use Rattle.std.specs.Prelude.{◌≡◌, ℕ, ◌≤◌, leb, List, ◌++◌, length, take, drop}
use Rattle.std.specs.List.{list_all, position_or_len}

-- ys is xs with its first i items moved to the end
abbrev pub IsTurnBy : List ℕ → List ℕ → ℕ → Type 0
IsTurnBy xs ys i = ys ≡ drop i xs ++ take i xs

-- ys is a turn of xs: both are one cyclic list
abbrev pub IsTurn : List ℕ → List ℕ → Type 0
IsTurn xs ys = (i : ℕ) × (i ≤ length xs) × IsTurnBy xs ys i

-- the place of the first of the least items
abbrev pub least_place : List ℕ → ℕ
least_place xs = position_or_len (λ x. list_all (λ y. leb x y) xs) xs

-- the list turned so that the first of its least items stands first
abbrev pub turned_to_least : List ℕ → List ℕ
turned_to_least xs = drop (least_place xs) xs ++ take (least_place xs) xs
