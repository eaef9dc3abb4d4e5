-- What the parts of the reader find, in terms of filters.
use Rattle.std.proofs.Common.{◌≡◌, ℕ, ◌-◌, ◌<◌, ◌≤◌, List, [], ◌∷◌, length, take, drop, get_or, refl, sym, ap, ◌∙◌, arith, ⊎_elim}
use Rattle.std.proofs.lemmas.Bool.{cases_Bool, cond-true, cond-false}
use Rattle.std.proofs.lemmas.List.{take_rest}
use Rattle.cp_gml.specs.declared.tree.Entry.{Entry}
use Rattle.cp_cgraph.specs.Entries.{keyed, has_key}
use Rattle.cp_cgraph.specs.Passes.{from_first}

-- an entry with the key, and the later ones with it
heads : List ℕ → List Entry → List Entry
heads key [] = []
heads key (e ∷ es) = e ∷ keyed key es

-- the entries of a key begin at the first one
keyed-from_first : (key : List ℕ) (es : List Entry) → keyed key es ≡ heads key (from_first key es)
unfolding heads
keyed-from_first key [] = refl
keyed-from_first key (e ∷ es) =
    ⊎_elim
    (λ t. cond-true (has_key key e) (e ∷ keyed key es) (keyed key es) t
    ∙ sym (ap (heads key) (cond-true (has_key key e) (e ∷ es) (from_first key es) t)))
    (λ f. cond-false (has_key key e) (e ∷ keyed key es) (keyed key es) f ∙ keyed-from_first key es
    ∙ sym (ap (heads key) (cond-false (has_key key e) (e ∷ es) (from_first key es) f)))
    (cases_Bool (has_key key e))

-- where nothing is found there are none
heads-none : (key : List ℕ) (found : List Entry) → length found < 1 → heads key found ≡ []
unfolding heads
heads-none key [] less = refl
heads-none key (e ∷ es) less = absurd (omega arith)

-- the first entry that is found comes before those behind
heads-some : (key : List ℕ) (found : List Entry) (e : Entry) → 1 ≤ length found → e ≡ get_or found 0 e
    → heads key found ≡ e ∷ keyed key (take (length found - 1) (drop 1 found))
unfolding heads
heads-some key [] e more is = absurd (omega arith)
heads-some key (x ∷ xs) e more is =
    ap (λ (y : Entry). y ∷ keyed key xs) (sym is)
    ∙ sym (ap (λ (es : List Entry). e ∷ keyed key es) (take_rest (x ∷ xs) 1))

-- where no entry is found there is none with the key
pub keyed_none : (key : List ℕ) (es found : List Entry) → found ≡ from_first key es → length found < 1
    → keyed key es ≡ []
keyed_none key es found is less = keyed-from_first key es ∙ ap (heads key) (sym is) ∙ heads-none key found less

-- the first entry that is found is the first with the key
pub keyed_some : (key : List ℕ) (es found : List Entry) (e : Entry) → found ≡ from_first key es → 1 ≤ length found
    → e ≡ get_or found 0 e → keyed key es ≡ e ∷ keyed key (take (length found - 1) (drop 1 found))
keyed_some key es found e is more first = keyed-from_first key es ∙ ap (heads key) (sym is)
    ∙ heads-some key found e more first
