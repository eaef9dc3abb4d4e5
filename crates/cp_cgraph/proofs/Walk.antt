-- How a list of a cluster is read, entry by entry.
use Rattle.std.proofs.Common.{◌≡◌, ℕ, ◌+◌, ◌<◌, true, false, cond, List, [], ◌∷◌, ◌++◌, length, drop, get_or, refl, sym, ap, ◌∙◌}
use Rattle.std.proofs.lemmas.Bool.{cond-true, cond-false}
use Rattle.std.proofs.lemmas.List.{at_drop_more}
use Rattle.cp_cgraph.specs.declared.kind.GraphKind.TheVariants.{NotAList, BadId}
use Rattle.cp_gml.specs.declared.tree.Entry.{Entry}
use Rattle.cp_gml.specs.declared.tree.GmlList.{GmlList, out-GmlList}
use Rattle.cp_gml.specs.declared.tree.GmlValue.{GmlValue}
use Rattle.cp_gml.specs.declared.tree.GmlValue.TheVariants.{Int, Number, Str, List as Nested}
use Rattle.cp_gml.specs.Tokens.{Leaf, Chars, Whole, Other}
use Rattle.cp_gml.specs.Trees.{Tree, nil, leaf, tree, with_value, with_list}
use Rattle.cp_gml.proofs.Spelling.{with_list-tree}
use Rattle.cp_cgraph.specs.Entries.{vertex_id}
use Rattle.cp_cgraph.specs.Nested.{is_cluster, is_vertex, leaf_id}
use Rattle.cp_cgraph.specs.Passes.{read, with_cluster, with_fault, with_name}
use Rattle.cp_cgraph.specs.declared.clusters.Clusters.{Clusters}

module _ (c : ℕ) (key : List ℕ) (key_at : ℕ) where
  -- what stands behind a list is read behind it
  read_list_value : (list : GmlList) (at : ℕ) (rest : Tree) (s : Clusters)
      → read c (with_list key key_at list at rest) s ≡ read c rest (read c (with_list key key_at list at nil) s)
  read_list_value list at rest s =
      ap (λ (t : Tree). read c t s) (with_list-tree key key_at list at rest)
      ∙ sym (ap (λ (t : Tree). read c rest (read c t s)) (with_list-tree key key_at list at nil))

  -- what stands behind a value is read behind it
  pub read_value : (value : GmlValue) (at : ℕ) (rest : Tree) (s : Clusters)
      → read c (with_value key key_at value at rest) s ≡ read c rest (read c (with_value key key_at value at nil) s)
  read_value (Int n) at rest s = refl
  read_value Number at rest s = refl
  read_value (Str text) at rest s = refl
  read_value (Nested list) at rest s = read_list_value list at rest s

  module _ (no_cluster : is_cluster key ≡ false) where
    -- a leaf of another key than `cluster`
    leaf_else : (v : Leaf) (at : ℕ) (s : Clusters)
        → read c (leaf key key_at v at nil) s ≡ cond (is_vertex key) (with_name c (leaf_id v) at s) s
    leaf_else v at s = cond-false (is_cluster key) (with_fault at NotAList s)
        (cond (is_vertex key) (with_name c (leaf_id v) at s) s) no_cluster

    -- a list of another key than `cluster`
    list_else : (list : GmlList) (at : ℕ) (s : Clusters)
        → read c (with_list key key_at list at nil) s ≡ cond (is_vertex key) (with_fault at BadId s) s
    list_else list at s =
        ap (λ (t : Tree). read c t s) (with_list-tree key key_at list at nil)
        ∙ cond-false (is_cluster key) (read (length (s.parents ++ c ∷ [])) (tree (out-GmlList list).entries)
        (with_cluster c s)) (cond (is_vertex key) (with_fault at BadId s) s) no_cluster

    -- a `vertex` entry is read as a name
    pub read_vertex : is_vertex key ≡ true → (value : GmlValue) (at : ℕ) (s : Clusters)
        → with_name c (vertex_id value) at s ≡ read c (with_value key key_at value at nil) s
    read_vertex is_it (Int n) at s =
        sym (leaf_else (Whole n) at s ∙ cond-true (is_vertex key) (with_name c (leaf_id (Whole n)) at s) s is_it)
    read_vertex is_it Number at s =
        sym (leaf_else Other at s ∙ cond-true (is_vertex key) (with_name c (leaf_id Other) at s) s is_it)
    read_vertex is_it (Str text) at s =
        sym (leaf_else (Chars text) at s ∙ cond-true (is_vertex key) (with_name c (leaf_id (Chars text)) at s) s is_it)
    read_vertex is_it (Nested list) at s =
        sym (list_else list at s ∙ cond-true (is_vertex key) (with_fault at BadId s) s is_it)

    -- an entry of another key is skipped
    pub read_other : is_vertex key ≡ false → (value : GmlValue) (at : ℕ) (s : Clusters)
        → s ≡ read c (with_value key key_at value at nil) s
    read_other is_not (Int n) at s =
        sym (leaf_else (Whole n) at s ∙ cond-false (is_vertex key) (with_name c (leaf_id (Whole n)) at s) s is_not)
    read_other is_not Number at s =
        sym (leaf_else Other at s ∙ cond-false (is_vertex key) (with_name c (leaf_id Other) at s) s is_not)
    read_other is_not (Str text) at s =
        sym (leaf_else (Chars text) at s
        ∙ cond-false (is_vertex key) (with_name c (leaf_id (Chars text)) at s) s is_not)
    read_other is_not (Nested list) at s =
        sym (list_else list at s ∙ cond-false (is_vertex key) (with_fault at BadId s) s is_not)

  -- a `cluster` entry opens a cluster and is read inside
  pub read_cluster : is_cluster key ≡ true
      → (value : GmlValue) (list : GmlList) (at : ℕ) (s : Clusters) (ps : List ℕ) (n : ℕ)
      → value ≡ Nested list → ps ≡ s.parents ++ c ∷ [] → n ≡ length ps
      → read n (tree (out-GmlList list).entries) record { parents = ps; names = s.names; faults = s.faults } ≡ read c
      (with_value key key_at value at nil) s
  read_cluster is_it value list at s ps n is ps_are n_is =
      ap (λ (m : ℕ). read m (tree (out-GmlList list).entries) record {
        parents = ps;
        names = s.names;
        faults = s.faults;
      }) n_is
      ∙ ap (λ (qs : List ℕ). read (length qs) (tree (out-GmlList list).entries) record
      { parents = qs; names = s.names; faults = s.faults }) ps_are
      ∙ sym (cond-true (is_cluster key) (read (length (s.parents ++ c ∷ [])) (tree (out-GmlList list).entries)
      (with_cluster c s)) (cond (is_vertex key) (with_fault at BadId s) s) is_it)
      ∙ sym (ap (λ (t : Tree). read c t s) (with_list-tree key key_at list at nil))
      ∙ sym (ap (λ (v : GmlValue). read c (with_value key key_at v at nil) s) is)

-- the next entry is read before those behind
pub read_next : (c : ℕ) (es : List Entry) (i : ℕ) (e : Entry) (s : Clusters) → i < length es → e ≡ get_or es i e
    → read c (tree (drop i es)) s ≡ read c (tree (drop (i + 1) es)) (read c (tree (e ∷ [])) s)
read_next c es i e s less is =
    at_drop_more (λ (xs : List Entry). read c (tree xs) s) es i e less
    ∙ ap (λ (x : Entry). read c (tree (x ∷ drop (i + 1) es)) s) (sym is)
    ∙ read_value c e.key e.key_at e.value e.value_at (tree (drop (i + 1) es)) s
