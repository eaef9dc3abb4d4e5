-- What the code that puts in an edge needs: items put in one by one, and the system that the parts make.
use Rattle.std.proofs.Common.{◌≡◌, ℕ, ◌+◌, ◌*◌, ◌/◌, ◌<◌, ◌≢◌, cond, List, [], ◌∷◌, ◌++◌, length, take, set, eqb, slice_index, slice_index_or, sym, refl, ap, ap₂, ◌∙◌, subst, ⊎_elim, arith, append_assoc, take_all, ext_get_or, length-set}
use Rattle.std.specs.List.{Contains}
use Rattle.std.proofs.lemmas.Bool.{cases_eq, eq-eqb, ne_eqb, cond-true, cond-false}
use Rattle.std.proofs.lemmas.List.{take_more, get_or-set_same, get_or-set_other}
use Rattle.cp_lists.specs.CyclicLists.{Has}
use Rattle.cp_lists.proofs.DistinctLists.{Has-Contains, Has_at}
use Rattle.cp_rot.specs.Systems.{System, edges, IsRotation}
use Rattle.cp_rot.specs.Tables.{system_of}
use Rattle.cp_rot.specs.Rewrites.{values, with_behind, vertex_with_edge, with_edge, others_from, expanded_vertex, expanded_list, expanded}
use Rattle.cp_rot.specs.RewriteTables.{inserted_list, row_of, left_of, moved_at, HasMoved}
use Rattle.cp_rot.proofs.ListEdits.{length-values, values_at, values_more}
use Rattle.cp_rot.proofs.RewriteCode.{values_system}
use Rattle.cp_rot.proofs.ExpandedVertices.{list_new, list_old, list_other, at_first, at_second, has_f_rest, in_row, stands}

-- putting in goes along the parts of a list
with_behind-append : (a b : ℕ) (xs ys : List ℕ) → with_behind a b (xs ++ ys) ≡ with_behind a b xs ++ with_behind a b ys
with_behind-append a b [] ys = refl
with_behind-append a b (x ∷ xs) ys = ⊎_elim
    (λ e. rw (eq-eqb x a e) (ap (λ zs. x ∷ b ∷ zs) (with_behind-append a b xs ys)))
    (λ ne. rw (ne_eqb x a ne) (ap (λ zs. x ∷ zs) (with_behind-append a b xs ys)))
    (cases_eq x a)

-- a loop's step: the next item is a
pub inserted_at : (xs : List ℕ) (i a b : ℕ) {old one both : List ℕ} → i < length xs → slice_index xs i ≡ a → old ≡ with_behind a b (take i xs) → one ≡ old ++ slice_index xs i ∷ [] → both ≡ one ++ b ∷ [] → both ≡ with_behind a b (take (i + 1) xs)
inserted_at xs i a b {old} {one} {both} lt e h p q =
    let single : with_behind a b (slice_index xs i ∷ []) ≡ slice_index xs i ∷ b ∷ [] = rw (eq-eqb (slice_index xs i) a e) refl in
    q ∙ ap (λ zs. zs ++ b ∷ []) p ∙ append_assoc old (slice_index xs i ∷ []) (b ∷ []) ∙ ap₂ (λ us ws. us ++ ws) h (sym single)
    ∙ sym (with_behind-append a b (take i xs) (slice_index xs i ∷ [])) ∙ ap (with_behind a b) (sym (take_more xs i 0 lt))

-- a loop's step: the next item is another
pub inserted_other : (xs : List ℕ) (i a b : ℕ) {old one : List ℕ} → i < length xs → (slice_index xs i ≡ a → ⊥) → old ≡ with_behind a b (take i xs) → one ≡ old ++ slice_index xs i ∷ [] → one ≡ with_behind a b (take (i + 1) xs)
inserted_other xs i a b {old} {one} lt ne h p =
    let single : with_behind a b (slice_index xs i ∷ []) ≡ slice_index xs i ∷ [] = rw (ne_eqb (slice_index xs i) a ne) refl in
    p ∙ ap₂ (λ us ws. us ++ ws) h (sym single)
    ∙ sym (with_behind-append a b (take i xs) (slice_index xs i ∷ [])) ∙ ap (with_behind a b) (sym (take_more xs i 0 lt))

-- a list is the values of a function that tells its items
pub values_are : {A : Type 0} (z : A) (xs : List A) (n : ℕ) (f : ℕ → A) → length xs ≡ n
    → ((i : ℕ) → i < n → slice_index_or xs i z ≡ f i) → xs ≡ values n f
values_are z xs n f size told = ext_get_or z xs (values n f) (size ∙ sym (length-values n f)) (λ i lt. told i (omega arith) ∙ sym (values_at n f i z (omega arith)))

-- two numbers behind a table of values
pub values_two_more : (n m : ℕ) (f : ℕ → ℕ) {table at : List ℕ} {a b : ℕ} → m ≡ n + 1 + 1 → table ≡ values n f → a ≡ f n
    → b ≡ f (n + 1) → at ≡ (table ++ a ∷ []) ++ b ∷ [] → at ≡ values m f
values_two_more n m f {table} {at} {a} {b} em e ea eb h =
    let first : table ++ a ∷ [] ≡ values (n + 1) f = values_more n f {ys = table ++ a ∷ []} e ea refl in
    values_more (n + 1) f first eb h ∙ ap (λ k. values k f) (sym em)

-- darts d and f of a system in parts
module _ (d f g : ℕ) (at : List ℕ) (lists : List (List ℕ)) (is : IsRotation (system_of at lists)) where
  -- the system
  abbrev before_edge : System
  before_edge = system_of at lists

  -- the first new dart
  abbrev x : ℕ
  x = 2 * (length at / 2)

  -- where the darts stand
  abbrev stand : ℕ → ℕ
  stand = vertex_with_edge before_edge (slice_index at d) (slice_index at f)

  -- an old dart stands where it stood
  stand_old : (i : ℕ) → i < x → stand i ≡ slice_index at i
  stand_old i lt = cond-false (eqb i x) (slice_index at d) (cond (eqb i (x + 1)) (slice_index at f) (slice_index at i)) (ne_eqb i x (λ e. omega arith)) ∙ cond-false (eqb i (x + 1)) (slice_index at f) (slice_index at i) (ne_eqb i (x + 1) (λ e. omega arith))

  -- the first new dart stands with d
  stand_first : stand x ≡ slice_index at d
  stand_first = cond-true (eqb x x) (slice_index at d) (cond (eqb x (x + 1)) (slice_index at f) (slice_index at x)) (eq-eqb x x refl)

  -- the second with f
  stand_second : stand (x + 1) ≡ slice_index at f
  stand_second = cond-false (eqb (x + 1) x) (slice_index at d) (cond (eqb (x + 1) (x + 1)) (slice_index at f) (slice_index at (x + 1))) (ne_eqb (x + 1) x (λ e. omega arith)) ∙ cond-true (eqb (x + 1) (x + 1)) (slice_index at f) (slice_index at (x + 1)) (eq-eqb (x + 1) (x + 1) refl)

  -- the parts with an edge more make the system with it
  pub edge_is : {at' : List ℕ} {lists' : List (List ℕ)} → g ≡ cond (eqb f d) (length at) f
      → at' ≡ (at ++ slice_index at d ∷ []) ++ slice_index at f ∷ []
      → lists' ≡ values (length lists) (inserted_list lists d (length at) g (length at + 1))
      → system_of at' lists' ≡ with_edge (system_of at lists) d f
  edge_is {at'} {lists'} eg e_at e_lists =
      ap₂ system_of
      (values_two_more x (2 * (length at / 2 + 1)) stand (omega arith) (values_are 0 at x stand is.paired (λ i lt. sym (stand_old i lt))) (sym stand_first) (sym stand_second) e_at)
      (e_lists ∙ ap (λ q. values (length lists) (inserted_list lists d (length at) q (length at + 1))) eg ∙ ap (λ n. values (length lists) (inserted_list lists d n (cond (eqb f d) n f) (n + 1))) is.paired)
      ∙ values_system (length lists) (length at / 2 + 1) stand (inserted_list lists d x (cond (eqb f d) x f) (x + 1))

-- darts d and f at one vertex of a system in parts
module _ (d f : ℕ) (at : List ℕ) (lists : List (List ℕ)) (is : IsRotation (system_of at lists)) (ltd : d < length at)
    (ltf : f < length at) (one : slice_index at f ≡ slice_index at d) where
  -- the system
  abbrev r : System
  r = system_of at lists

  -- the vertex of d
  abbrev w : ℕ
  w = slice_index at d

  -- the other darts there, from behind d on
  abbrev rest : List ℕ
  rest = others_from d (slice_index_or lists w [])

  -- f is one of them where it is not d
  pub contains_f : {xs : List ℕ} → xs ≡ rest → f ≢ d → Contains xs f
  contains_f e ne = subst (λ ys. Contains ys f) (sym e) ((Has-Contains f rest).0 (has_f_rest r is d f ltd ltf one ne))

  -- the row holds darts
  pub row_below : {xs : List ℕ} → xs ≡ row_of d f rest → (i : ℕ) → i < length xs → slice_index xs i < length at
  row_below {xs} e i lt =
      let old = (stands r is d f ltd ltf one (slice_index xs i) (in_row r is d f ltd ltf one (slice_index xs i) (subst (λ ys. Has (slice_index xs i) ys) e (Has_at xs i lt)))).0 in
      omega (arith, is.paired)

  -- the old darts stand as the table says
  old_vertex : (i : ℕ) → i < 2 * (length at / 2) → expanded_vertex r d f i ≡ moved_at at (row_of d f rest)
      (length lists) i
  old_vertex i lt =
      cond-false (eqb i (2 * (length at / 2))) w (cond (eqb i (2 * (length at / 2) + 1)) (length lists) (moved_at at (row_of d f rest) (length lists) i)) (ne_eqb i (2 * (length at / 2)) (λ e. omega arith))
      ∙ cond-false (eqb i (2 * (length at / 2) + 1)) (length lists) (moved_at at (row_of d f rest) (length lists) i) (ne_eqb i (2 * (length at / 2) + 1) (λ e. omega arith))

  -- the vertices of the darts are those of the definition
  vertices_are : {new row : List ℕ} → row ≡ row_of d f rest → HasMoved at row w (length lists) new
      → new ≡ values (2 * (edges r + 1)) (expanded_vertex r d f)
  vertices_are {new} {row} e moved =
      values_two_more (2 * edges r) (2 * (edges r + 1)) (expanded_vertex r d f) (omega arith)
      (values_are 0 moved.0 (2 * edges r) (expanded_vertex r d f) (moved.1.size ∙ is.paired)
      (λ i lt. moved.1.told i ∙ ap (λ xs. moved_at at xs (length lists) i) (take_all (length row) row (omega arith) ∙ e) ∙ sym (old_vertex i lt)))
      (sym (at_first r is d f ltd ltf one)) (sym (at_second r is d f ltd ltf one)) moved.2

  -- the lists are those of the definition
  lists_are : {new : List (List ℕ)} {left moved row others : List ℕ} → others ≡ rest → row ≡ row_of d f rest
      → left ≡ d ∷ length at ∷ left_of d f others → moved ≡ (length at + 1) ∷ row → new ≡ set lists w left ++ moved ∷ []
      → new ≡ values (length lists + 1) (expanded_list r d f)
  lists_are {new} {left} {moved} {row} {others} eo er el em e =
      values_more (length lists) (expanded_list r d f)
      (values_are [] (set lists w left) (length lists) (expanded_list r d f) (length-set lists w left) told)
      (em ∙ ap₂ (λ n xs. (n + 1) ∷ xs) is.paired er ∙ sym (list_new r is d f ltd ltf one)) e
    where
      told : (i : ℕ) → i < length lists → slice_index_or (set lists w left) i []
          ≡ expanded_list (system_of at lists) d f i
      told i lt = ⊎_elim
          (λ h. ap (λ q. slice_index_or (set lists w left) q []) h ∙ get_or-set_same lists w left [] (is.placed d ltd)
          ∙ el ∙ ap₂ (λ n xs. d ∷ n ∷ left_of d f xs) is.paired eo ∙ sym (list_old r is d f ltd ltf one) ∙ ap (expanded_list r d f) (sym h))
          (λ ne. get_or-set_other lists w i left [] ne ∙ sym (list_other r is d f ltd ltf one i (λ h. omega arith) ne))
          (cases_eq i w)

  -- the parts make the expanded system
  pub expanded_is : {new_at : List ℕ} {new_lists : List (List ℕ)} {left moved row others : List ℕ} → others ≡ rest
      → row ≡ row_of d f rest → left ≡ d ∷ length at ∷ left_of d f others → moved ≡ (length at + 1) ∷ row
      → HasMoved at row w (length lists) new_at → new_lists ≡ set lists w left ++ moved ∷ []
      → system_of new_at new_lists ≡ expanded r d f
  expanded_is {new_at} {new_lists} {left} {moved} {row} {others} eo er el em e_at e_lists =
      ap₂ system_of (vertices_are er e_at) (lists_are eo er el em e_lists)
      ∙ values_system (length lists + 1) (edges r + 1) (expanded_vertex r d f) (expanded_list r d f)
