-- Tests of orders of small stars, for lists that are written out.
use Rattle.std.specs.Prelude.{ℕ, Bool, ◌&&◌, List, ◌∷◌}
use Rattle.std.specs.List.{list_all}
use Rattle.cp_pq.specs.Orders.{inside}
use Rattle.cp_pq.specs.SmallTrees.{are_apart, is_some}

-- whether 0 and the leaves are distinct, and the order is a list of distinct leaves, at least one
abbrev pub is_star_order : List ℕ → List ℕ → Bool
is_star_order leaves order =
    are_apart (0 ∷ leaves) && (are_apart order && (is_some order && list_all (inside leaves) order))
