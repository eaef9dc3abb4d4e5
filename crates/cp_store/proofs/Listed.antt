-- The table of the entries of some items.
use Rattle.std.proofs.Common.{◌≡◌, ◌≤◌, ℕ, List, [], ◌∷◌, length, arith, map, sym, refl, ap, ◌∙◌, subst}
use Rattle.std.proofs.lemmas.List.{length-map}
use Rattle.std.specs.List.Sorted.{IsStrictlyIncreasing}
use Rattle.cp_store.specs.declared.entry.Entry.{Entry}
use Rattle.cp_store.specs.Exchanges.{entry_names, items_of, IsTable}
use Rattle.cp_store.specs.Rewriting.{kept}
use Rattle.cp_store.proofs.RewrittenItems.{All-kept}

-- the entries of items tell the items
items-kept : {A : Type 0} (name : A → ℕ) (xs : List A) → items_of (map (kept name) xs) ≡ xs
items-kept name [] = refl
items-kept name (x ∷ xs) = ap (λ ys. x ∷ ys) (items-kept name xs)

-- and their names
names-kept : {A : Type 0} (name : A → ℕ) (xs : List A) → entry_names (map (kept name) xs) ≡ map name xs
names-kept name [] = refl
names-kept name (x ∷ xs) = ap (λ ns. name x ∷ ns) (names-kept name xs)

-- entries that are those of the items tell them
pub items-listed : {A : Type 0} (name : A → ℕ) (xs : List A) (es : List (Entry A)) → es ≡ map (kept name) xs → items_of es ≡ xs
items-listed name xs es is = ap items_of is ∙ items-kept name xs

-- and are a table where the names rise
pub IsTable-listed : {A : Type 0} (name : A → ℕ) (xs : List A) (es : List (Entry A)) → es ≡ map (kept name) xs → IsStrictlyIncreasing (map name xs)
    → length xs ≤ 2305843009213693952
    → IsTable name es
IsTable-listed name xs es is up few =
    subst (IsTable name) (sym is) record { rise = subst IsStrictlyIncreasing (sym (names-kept name xs)) up; named = All-kept name xs; few = omega (arith, few, length-map xs (kept name)) }
