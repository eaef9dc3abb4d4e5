-- The items of some entries, one entry after another.
use Rattle.std.proofs.Common.{◌≡◌, ℕ, ◌+◌, ◌<◌, List, [], ◌∷◌, ◌++◌, length, map, take, slice_index_or, sym, refl, ap, ◌∙◌}
use Rattle.std.specs.Prelude.{Option, Some, None}
use Rattle.std.proofs.lemmas.List.{take_more, map-append}
use Rattle.cp_store.specs.declared.entry.Entry.{Entry}
use Rattle.cp_store.specs.Exchanges.{with_item, items_of}

-- an item stands in front of all lists or of the first of them
with_item-append : {A : Type 0} (o : Option A) (xs ys : List A) → with_item o (xs ++ ys) ≡ with_item o xs ++ ys
with_item-append None xs ys = refl
with_item-append (Some x) xs ys = refl

-- the items of entries, and of more behind them
items_of-append : {A : Type 0} (es fs : List (Entry A)) → items_of (es ++ fs) ≡ items_of es ++ items_of fs
items_of-append [] fs = refl
items_of-append (e ∷ es) fs = ap (with_item e.item) (items_of-append es fs) ∙ with_item-append e.item (items_of es) (items_of fs)

-- one entry more
pub items-more : {A : Type 0} (es : List (Entry A)) (k : ℕ) (e : Entry A) → k < length es → e ≡ slice_index_or es k e
    → items_of (take (k + 1) es) ≡ items_of (take k es) ++ with_item e.item []
items-more es k e lt is =
    ap items_of (take_more es k e lt ∙ ap (λ x. take k es ++ x ∷ []) (sym is))
    ∙ items_of-append (take k es) (e ∷ [])

-- the names of the items of one entry more
pub names-more : {A : Type 0} (name : A → ℕ) (es : List (Entry A)) (k : ℕ) (e : Entry A) → k < length es
    → e ≡ slice_index_or es k e
    → map name (items_of (take (k + 1) es)) ≡ map name (items_of (take k es)) ++ map name (with_item e.item [])
names-more name es k e lt is =
    ap (map name) (items-more es k e lt is) ∙ map-append name (items_of (take k es)) (with_item e.item [])
