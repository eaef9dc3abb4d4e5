-- The tests of equal values, entries and lists decide that both are the same.
use Rattle.std.proofs.Common.{◌≡◌, ℕ, ◌≤◌, ◌==◌, List, [], ◌∷◌, length, take, sym, ap, ◌∙◌, arith}
use Rattle.std.specs.Bool.{Decides}
use Rattle.std.proofs.lemmas.Bool.Decides.{Decides-eqb, Decides-like, Decides-and}
use Rattle.std.proofs.lemmas.List.{take_all}
use Rattle.cp_gml.specs.Trees.{tree}
use Rattle.cp_gml.specs.Equal.{tree_eq, entry_eq, value_eq, list_eq, tree_eq-Decides}
use Rattle.cp_gml.specs.declared.tree.Entry.{Entry}
use Rattle.cp_gml.specs.declared.tree.GmlList.{GmlList, out-GmlList, roll-GmlList, roll-out-GmlList}
use Rattle.cp_gml.specs.declared.tree.GmlValue.{GmlValue}
use Rattle.cp_gml.proofs.Same.{same_entries}

-- the comparison of the trees of entries tells whether the entries are equal
entries_eq-Decides : (es fs : List Entry) → Decides (tree_eq (tree es) (tree fs)) (es ≡ fs)
entries_eq-Decides es fs = Decides-like (tree_eq (tree es) (tree fs)) (same_entries es fs) (ap tree)
    (tree_eq-Decides (tree es) (tree fs))

-- the comparison of two entries tells whether they are equal
pub entry_eq-Decides : (e f : Entry) → Decides (entry_eq e f) (e ≡ f)
entry_eq-Decides e f = Decides-like (entry_eq e f) (λ h. cc) (ap (λ (x : Entry). x ∷ []))
    (entries_eq-Decides (e ∷ []) (f ∷ []))

-- an entry with the value
abbrev holding : GmlValue → Entry
holding v = record { key = []; key_at = 0; value = v; value_at = 0 }

-- the comparison of two values tells whether they are equal
pub value_eq-Decides : (v w : GmlValue) → Decides (value_eq v w) (v ≡ w)
value_eq-Decides v w = Decides-like (value_eq v w) (ap (λ (e : Entry). e.value)) (ap holding)
    (entry_eq-Decides (holding v) (holding w))

-- lists with the same entries and the same end
same_fields : (l m : GmlList) → (out-GmlList l).entries ≡ (out-GmlList m).entries
    → (out-GmlList l).end ≡ (out-GmlList m).end → l ≡ m
same_fields l m entries ends = sym (roll-out-GmlList l)
    ∙ (λ i. roll-GmlList (record { entries = entries i; end = ends i })) ∙ roll-out-GmlList m

-- the comparison of two lists tells whether they are equal
pub list_eq-Decides : (l m : GmlList) → Decides (list_eq l m) (l ≡ m)
list_eq-Decides l m =
    let entries = tree_eq (tree (out-GmlList l).entries) (tree (out-GmlList m).entries) in
    let ends = (out-GmlList l).end == (out-GmlList m).end in
    Decides-like (list_eq l m) (λ p. same_fields l m p.0 p.1)
    (λ e. (ap (λ (x : GmlList). (out-GmlList x).entries) e, ap (λ (x : GmlList). (out-GmlList x).end) e))
    (Decides-and entries ends (entries_eq-Decides (out-GmlList l).entries (out-GmlList m).entries)
    (Decides-eqb (out-GmlList l).end (out-GmlList m).end))

-- entries that were all compared
pub same_lists : (l m : GmlList) (es fs : List Entry) (i : ℕ) → es ≡ (out-GmlList l).entries
    → fs ≡ (out-GmlList m).entries → (out-GmlList l).end ≡ (out-GmlList m).end
    → length es ≡ length fs → length es ≤ i → take i es ≡ take i fs → l ≡ m
same_lists l m es fs i es_are fs_are ends long past compared =
    let all : es ≡ fs = sym (take_all i es past) ∙ compared ∙ take_all i fs (omega (arith, long)) in
    same_fields l m (sym es_are ∙ all ∙ fs_are) ends
