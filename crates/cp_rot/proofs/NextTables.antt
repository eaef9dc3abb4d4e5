-- The table of the dart behind each dart, written list by list.
use Rattle.std.proofs.Common.{◌≡◌, ℕ, ◌+◌, ◌<◌, ◌≢◌, List, length, set, slice_index, sym, refl, ap, ◌∙◌, subst, ⊎_elim, arith}
use Rattle.std.specs.List.{Contains}
use Rattle.std.proofs.lemmas.Bool.{cases_eq}
use Rattle.std.proofs.lemmas.List.{get_or-set_same, get_or-set_other}
use Rattle.cp_lists.proofs.ExactLists.{EachOnce, place_of}
use Rattle.cp_rot.specs.Systems.{System, darts, vertex_of, list_of, place_after, next, IsRotation}
use Rattle.cp_rot.specs.Tables.{IsStored, system_of}
use Rattle.cp_rot.proofs.Rotations.{in_list, item_stands, next_of_item}

-- behind each of the first i items is written the item behind it; elsewhere the table is as before
pub record Written (items : List ℕ) (i : ℕ) (before table : List ℕ) : Type 0 where
  pub written : (j : ℕ) → j < i → slice_index table (slice_index items j)
      ≡ slice_index items (place_after (length items) j)
  pub others : (d : ℕ) → ((j : ℕ) → j < i → slice_index items j ≢ d) → slice_index table d ≡ slice_index before d

-- at the start nothing is written
pub Written-none : (items before : List ℕ) → Written items 0 before before
Written-none items before = record {
  written = λ j lt. absurd (omega arith);
  others = λ d h. refl;
}

-- the item behind the next one is written
pub Written-more : (items before table : List ℕ) (i d after : ℕ) → EachOnce items → Written items i before table
    → i < length items → d ≡ slice_index items i → d < length table
    → after ≡ slice_index items (place_after (length items) i) → Written items (i + 1) before (set table d after)
Written-more items before table i d after once w lt e within f = record {
  written = λ j ltj. ⊎_elim
      (λ g. ap (slice_index (set table d after)) (ap (slice_index items) g ∙ sym e) ∙ get_or-set_same table d after 0 within ∙ f ∙ ap (λ k. slice_index items (place_after (length items) k)) (sym g))
      (λ ne. get_or-set_other table d (slice_index items j) after 0 (λ same. ne (once j i (omega arith) lt (same ∙ e))) ∙ w.written j (omega arith))
      (cases_eq j i);
  others = λ c h. get_or-set_other table d c after 0 (λ same. h i (omega arith) (sym e ∙ sym same)) ∙ w.others c (λ j ltj. h j (omega arith));
}

-- the darts of the first vertices have the darts behind them in the table
pub record StoredUpto (r : System) (v : ℕ) (table : List ℕ) : Type 0 where
  pub size : length table ≡ darts r
  pub told : (d : ℕ) → d < darts r → vertex_of r d < v → slice_index table d ≡ next r d

-- at the start no vertex is done
pub StoredUpto-none : (r : System) (table : List ℕ) → length table ≡ darts r → StoredUpto r 0 table
StoredUpto-none r table size = record { size = size; told = λ d lt none. absurd (omega arith) }

-- the list of the next vertex is written, and nothing else
pub StoredUpto-more : (r : System) → IsRotation r → (v : ℕ) (table after : List ℕ) → StoredUpto r v table
    → v < r.vertices → length after ≡ length table
    → ((i : ℕ) → i < length (list_of r v) → slice_index after (slice_index (list_of r v) i) ≡ slice_index (list_of r v)
    (place_after (length (list_of r v)) i))
    → ((d : ℕ) → ((i : ℕ) → i < length (list_of r v) → slice_index (list_of r v) i ≢ d)
    → slice_index after d ≡ slice_index table d)
    → StoredUpto r (v + 1) after
StoredUpto-more r is v table after s ltv size written others = record {
  size = size ∙ s.size;
  told = λ d lt below. ⊎_elim
      (λ e. let h = place_of (list_of r v) d (subst (λ w. Contains (list_of r w) d) e (in_list r is d lt)) in
      ap (slice_index after) (sym h.2) ∙ written h.0 h.1 ∙ sym (next_of_item r is v h.0 ltv h.1) ∙ ap (next r) h.2)
      (λ ne. others d (λ i lti same. ne (ap (vertex_of r) (sym same) ∙ (item_stands r is v i ltv lti).1)) ∙ s.told d lt (omega arith))
      (cases_eq (vertex_of r d) v);
}

-- the same, where the list goes by another name
pub StoredUpto-list : (r : System) → IsRotation r → (v : ℕ) (table after items : List ℕ) → StoredUpto r v table
    → v < r.vertices → length after ≡ length table → items ≡ list_of r v
    → ((i : ℕ) → i < length items → slice_index after (slice_index items i)
    ≡ slice_index items (place_after (length items) i))
    → ((d : ℕ) → ((i : ℕ) → i < length items → slice_index items i ≢ d) → slice_index after d ≡ slice_index table d)
    → StoredUpto r (v + 1) after
StoredUpto-list r is v table after items s ltv size e =
    let P : List ℕ → Type 0 = λ xs. ((i : ℕ) → i < length xs → slice_index after (slice_index xs i) ≡ slice_index xs (place_after (length xs) i))
    → ((d : ℕ) → ((i : ℕ) → i < length xs → slice_index xs i ≢ d) → slice_index after d ≡ slice_index table d) → StoredUpto r (v + 1) after in
    subst P (sym e) (StoredUpto-more r is v table after s ltv size)

-- when all lists are written the table is whole
pub StoredUpto-all : (r : System) → IsRotation r → (table : List ℕ) → StoredUpto r r.vertices table → IsStored r table
StoredUpto-all r is table s = record {
  rotation = is;
  size = s.size;
  told = λ d lt. s.told d lt (is.placed d lt);
}

-- a rotation system is that of its own vertices of darts and its own lists
pub own_tables : (r : System) → IsRotation r → system_of r.at r.lists ≡ r
own_tables r is = ap (λ (n : ℕ). record { vertices = n; at = r.at; lists = r.lists }) is.listed
