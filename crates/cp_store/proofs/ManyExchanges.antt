-- One exchange of many: what it leaves to do, and what was done.
use Rattle.std.proofs.Common.{◌≡◌, ℕ, ◌+◌, ◌<◌, List, [], ◌∷◌, ◌++◌, length, take, slice_index_or, sym, ap, ◌∙◌, subst, arith}
use Rattle.std.specs.List.{All}
use Rattle.std.proofs.lemmas.List.{get_or-append-add, length-append, take_more}
use Rattle.std.proofs.Math.ListN.{get_or-append}
use Rattle.std.proofs.lemmas.List.Elements.{All-append, All-cons, All-nil}
use Rattle.cp_store.specs.declared.entry.Entry.{Entry}
use Rattle.cp_store.specs.Exchanges.{exchanged, taken_back}
use Rattle.cp_store.proofs.RewrittenItems.{taken_back-append}

-- what holds of all items of two lists holds of those of the first
pub All-first : {A : Type 0} (holds : A → Type 0) (xs ys : List A) → All holds (xs ++ ys) → All holds xs
All-first holds xs ys all k d lt =
    subst holds (get_or-append xs ys d k lt) (all k d (omega (arith, lt, length-append xs ys)))

-- and of the one behind them
pub All-last : {A : Type 0} (holds : A → Type 0) (xs : List A) (x : A) → All holds (xs ++ x ∷ []) → holds x
All-last holds xs x all =
    subst holds (get_or-append-add xs (x ∷ []) 0 x) (all (length xs + 0) x (omega (arith, length-append xs (x ∷ []))))

-- one item more of which it holds
pub All-more : {A : Type 0} (holds : A → Type 0) (xs : List A) (k : ℕ) (x : A) → k < length xs → x ≡ slice_index_or xs k x
    → All holds (take k xs) → holds x
    → All holds (take (k + 1) xs)
All-more holds xs k x lt is all it =
    subst (All holds) (sym (take_more xs k x lt ∙ ap (λ z. take k xs ++ z ∷ []) (sym is))) (All-append holds (take k xs) (x ∷ []) all (All-cons holds x [] it (All-nil holds)))

-- the exchange that is made next leaves the rest
pub rest-exchanged : {A : Type 0} (name : A → ℕ) (rest left : List (Entry A)) (e : Entry A) (xs ys : List A) → rest ≡ left ++ e ∷ []
    → ys ≡ exchanged name e.name e.item xs
    → taken_back name left ys ≡ taken_back name rest xs
rest-exchanged name rest left e xs ys is made =
    ap (taken_back name left) made ∙ sym (taken_back-append name left (e ∷ []) xs) ∙ sym (ap (λ es. taken_back name es xs) is)

-- what it exchanged is taken back first
pub done-exchanged : {A : Type 0} (name : A → ℕ) (done more : List (Entry A)) (e : Entry A) (xs ys : List A) → more ≡ done ++ e ∷ []
    → exchanged name e.name e.item ys ≡ xs
    → taken_back name more ys ≡ taken_back name done xs
done-exchanged name done more e xs ys is back =
    ap (λ es. taken_back name es ys) is ∙ taken_back-append name done (e ∷ []) ys ∙ ap (taken_back name done) back
