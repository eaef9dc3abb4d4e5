-- Entries are determined by their tree.
use Rattle.std.proofs.Common.{◌≡◌, ℕ, List, [], ◌∷◌, refl, sym, ap, ◌∙◌}
use mathlib.Core.Former.{Count, one_more}
use Rattle.cp_gml.specs.declared.tree.GmlList.{GmlList, GmlList', Row_of-Entry, end_of-Entry, more_of-Entry, out-GmlList, roll-GmlList, roll-out-GmlList, items-the_row-Entry, items_shown-the_row-Entry-0}
use denote.Hole.Carrier.{out}
use Rattle.cp_gml.specs.declared.tree.GmlValue.{GmlValue}
use Rattle.cp_gml.specs.declared.tree.GmlValue.TheVariants.{Int, Number, Str, List as Nested}
use Rattle.cp_gml.specs.declared.tree.Entry.{Entry}
use Rattle.cp_gml.specs.Tokens.{Leaf, Chars, Whole, Other}
use Rattle.cp_gml.specs.Trees.{Tree, nil, leaf, tree, tree_of_row, with_value, with_list}

-- two entries with their rests agree in all
record SameEntry {A : Type 0} (k l : List ℕ) (ka la : ℕ) (v w : A) (a b : ℕ) (r s : Tree) : Type 0 where
  -- the keys are the same
  keys : k ≡ l
  -- the offsets of the keys are the same
  key_ats : ka ≡ la
  -- the values are the same
  values : v ≡ w
  -- the offsets of the values are the same
  ats : a ≡ b
  -- what stands behind is the same
  rests : r ≡ s

module _ (k l : List ℕ) (ka la a b : ℕ) (r s : Tree) where
  -- two leaves of a tree are equal only in all parts
  same_leaf : (v w : Leaf) → leaf k ka v a r ≡ leaf l la w b s → SameEntry k l ka la v w a b r s
  same_leaf v w e = record { keys = cc; key_ats = cc; values = cc; ats = cc; rests = cc }

  -- two values whose trees are leaves agree where the leaves do
  leaf_entry : (v w : GmlValue) (x y : Leaf) → (x ≡ y → v ≡ w) → leaf k ka x a r ≡ leaf l la y b s
      → SameEntry k l ka la v w a b r s
  leaf_entry v w x y f e =
      let h = same_leaf x y e in
      record { keys = h.keys; key_ats = h.key_ats; values = f h.values; ats = h.ats; rests = h.rests }

  -- a leaf is no list
  leaf_no_list : (v : Leaf) (m : GmlList) → leaf k ka v a r ≡ with_list l la m b s → ⊥
  leaf_no_list v (GmlList' n row end) e = cc

  -- a list is no leaf
  list_no_leaf : (m : GmlList) (v : Leaf) → with_list k ka m a r ≡ leaf l la v b s → ⊥
  list_no_leaf (GmlList' n row end) v e = cc

-- a tree that begins with a list is not empty
list_some : (k : List ℕ) (ka : ℕ) (m : GmlList) (a : ℕ) (r : Tree) → with_list k ka m a r ≡ nil → ⊥
list_some k ka (GmlList' n row end) a r e = cc

-- a tree that begins with a value is not empty
value_some : (k : List ℕ) (ka : ℕ) (v : GmlValue) (a : ℕ) (r : Tree) → with_value k ka v a r ≡ nil → ⊥
value_some k ka (Int n) a r e = cc
value_some k ka Number a r e = cc
value_some k ka (Str text) a r e = cc
value_some k ka (Nested m) a r e = list_some k ka m a r e

-- a row of entries of some length
abbrev SomeRow : Type 0
SomeRow = (n : Count) × Row_of-Entry n

-- the fields of a list
abbrev row_of : GmlList → SomeRow
row_of (GmlList' n row end) = (_, row)

-- the offset at which a list ends
abbrev end_of : GmlList → ℕ
end_of (GmlList' n row end) = end

-- the entries of a list are those of its row
entries_row : (m : GmlList) → (out-GmlList m).entries ≡ items-the_row-Entry (row_of m).0 (row_of m).1
unfolding out-GmlList out
entries_row (GmlList' n row end) = items_shown-the_row-Entry-0 n row

-- a list ends where its parts say
end-end_of : (m : GmlList) → (out-GmlList m).end ≡ end_of m
unfolding out-GmlList out
end-end_of (GmlList' n row end) = refl

-- lists of one row with one end are one
same_list : (l m : GmlList) → row_of l ≡ row_of m → end_of l ≡ end_of m → l ≡ m
same_list l m e f =
    let entries = entries_row l ∙ ap (λ (x : SomeRow). items-the_row-Entry x.0 x.1) e ∙ sym (entries_row m) in
    let ends = end-end_of l ∙ f ∙ sym (end-end_of m) in
    sym (roll-out-GmlList l) ∙ (λ i. roll-GmlList (record { entries = entries i; end = ends i })) ∙ roll-out-GmlList m

-- rows that begin alike and go on alike are one
same_more : (k l : List ℕ) (ka la : ℕ) (v w : GmlValue) (a b : ℕ) (m n : Count) (row : Row_of-Entry m) (row' :
    Row_of-Entry n)
    → k ≡ l → ka ≡ la → v ≡ w → a ≡ b → ◌≡◌ {A = SomeRow} (m, row) (n, row')
    → ◌≡◌ {A = SomeRow} (one_more m, more_of-Entry k ka v a row) (one_more n, more_of-Entry l la w b row')
same_more k l ka la v w a b m n row row' keys key_ats values ats rows =
    λ i. (one_more (rows i).0, more_of-Entry (keys i) (key_ats i) (values i) (ats i) (rows i).1)

mutual
  -- a value with its key and its rest is determined by the tree
  same_value : (v w : GmlValue) (k l : List ℕ) (ka la a b : ℕ) (r s : Tree)
      → with_value k ka v a r ≡ with_value l la w b s → SameEntry k l ka la v w a b r s
  same_value (Int n) (Int m) k l ka la a b r s e =
      leaf_entry k l ka la a b r s (Int n) (Int m) (Whole n) (Whole m) (λ f. let g : n ≡ m = cc in ap Int g) e
  same_value (Int n) Number k l ka la a b r s e = cc
  same_value (Int n) (Str text) k l ka la a b r s e = cc
  same_value (Int n) (Nested m) k l ka la a b r s e = absurd (leaf_no_list k l ka la a b r s (Whole n) m e)
  same_value Number (Int m) k l ka la a b r s e = cc
  same_value Number Number k l ka la a b r s e = leaf_entry k l ka la a b r s Number Number Other Other (λ f. refl) e
  same_value Number (Str text) k l ka la a b r s e = cc
  same_value Number (Nested m) k l ka la a b r s e = absurd (leaf_no_list k l ka la a b r s Other m e)
  same_value (Str text) (Int m) k l ka la a b r s e = cc
  same_value (Str text) Number k l ka la a b r s e = cc
  same_value (Str text) (Str other) k l ka la a b r s e =
      leaf_entry k l ka la a b r s (Str text) (Str other) (Chars text) (Chars other)
      (λ f. let g : text ≡ other = cc in ap Str g) e
  same_value (Str text) (Nested m) k l ka la a b r s e = absurd (leaf_no_list k l ka la a b r s (Chars text) m e)
  same_value (Nested m) (Int n) k l ka la a b r s e = absurd (list_no_leaf k l ka la a b r s m (Whole n) e)
  same_value (Nested m) Number k l ka la a b r s e = absurd (list_no_leaf k l ka la a b r s m Other e)
  same_value (Nested m) (Str text) k l ka la a b r s e = absurd (list_no_leaf k l ka la a b r s m (Chars text) e)
  same_value (Nested m) (Nested n) k l ka la a b r s e =
      let h = same_with_list m n k l ka la a b r s e in
      record { keys = h.keys; key_ats = h.key_ats; values = ap Nested h.values; ats = h.ats; rests = h.rests }

  -- so is a list with its key and its rest
  same_with_list : (m n : GmlList) (k l : List ℕ) (ka la a b : ℕ) (r s : Tree)
      → with_list k ka m a r ≡ with_list l la n b s → SameEntry k l ka la m n a b r s
  same_with_list (GmlList' c row end) (GmlList' d row' end') k l ka la a b r s e =
      let inner : tree_of_row row ≡ tree_of_row row' = cc in
      let ends : end ≡ end' = cc in
      record {
        keys = cc;
        key_ats = cc;
        values =
            same_list (GmlList' c row end) (GmlList' d row' end') (same_row row row' inner) ends;
        ats = cc;
        rests = cc;
      }

  -- a row of entries is determined by its tree
  same_row : {c d : Count} (row : Row_of-Entry c) (row' : Row_of-Entry d) → tree_of_row row ≡ tree_of_row row'
      → ◌≡◌ {A = SomeRow} (c, row) (d, row')
  same_row end_of-Entry end_of-Entry e = refl
  same_row end_of-Entry (more_of-Entry l la w b row') e = absurd (value_some l la w b (tree_of_row row') (sym e))
  same_row (more_of-Entry k ka v a row) end_of-Entry e = absurd (value_some k ka v a (tree_of_row row) e)
  same_row (more_of-Entry k ka v a row) (more_of-Entry l la w b row') e =
      let h = same_value v w k l ka la a b (tree_of_row row) (tree_of_row row') e in
      same_more k l ka la v w a b _ _ row row' h.keys h.key_ats h.values h.ats (same_row row row' h.rests)

-- entries are determined by their tree
pub same_entries : (es fs : List Entry) → tree es ≡ tree fs → es ≡ fs
same_entries [] [] e = refl
same_entries [] (f ∷ fs) e = absurd (value_some f.key f.key_at f.value f.value_at (tree fs) (sym e))
same_entries (e ∷ es) [] h = absurd (value_some e.key e.key_at e.value e.value_at (tree es) h)
same_entries (e ∷ es) (f ∷ fs) h =
    let s = same_value e.value f.value e.key f.key e.key_at f.key_at e.value_at f.value_at (tree es) (tree fs) h in
    let first : e ≡ f = λ i. record { key = s.keys i; key_at = s.key_ats i; value = s.values i; value_at = s.ats i } in
    λ i. first i ∷ same_entries es fs s.rests i
