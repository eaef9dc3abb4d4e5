-- Lists of the vertices of blocks, appended to their rows, and the lists of all vertices in the end.
use Rattle.std.proofs.Common.{◌≡◌, ◌≢◌, ℕ, ◌+◌, ◌<◌, Bool, true, false, cond, eqb, List, [], ◌∷◌, ◌++◌, length, get_or, map, replicate, set, slice_index, take, sym, refl, ap, ap₂, ◌∙◌, subst, inl, ⊎_elim, arith, append-nil, length-set}
use Rattle.std.specs.Prelude.{Some, slice_index_or}
use Rattle.std.specs.List.{All, Contains, find}
use Rattle.std.specs.List.Sorted.{IsStrictlyIncreasing}
use Rattle.std.specs.Option.{option_map_or}
use Rattle.std.proofs.lemmas.Bool.{cases_Bool, cases_eq, cond-false, cond-true, eq-eqb, eqb-true, false≢true}
use Rattle.std.proofs.lemmas.List.{get_or-map, get_or-replicate, get_or-set_other, get_or-set_same, get_or-take, get_or_read, length-map, length-replicate, length-take-le, map-append, take_all, take_more}
use Rattle.std.proofs.lemmas.List.Elements.{Contains-get_or}
use Rattle.std.proofs.lemmas.List.Kept.{AllPairs-from_increasing}
use Rattle.cp_lists.specs.CyclicLists.{Has}
use Rattle.cp_lists.specs.Rows.{flat}
use Rattle.cp_lists.proofs.DistinctLists.{Distinct-once, Has-append_cases, Has-append_left, Has-append_right, Has-place}
use Rattle.cp_lists.proofs.FlatLists.{flat-append}
use Rattle.cp_conn.specs.NamedGraphs.{rank}
use Rattle.cp_conn.proofs.NamedGraphs.{rank_at, rank_is}
use Rattle.cp_board.specs.Instances.{Synchronized, vert_names}
use Rattle.cp_board.specs.Names.{has}
use Rattle.cp_board.specs.Solutions.{list_in}
use Rattle.cp_embed.proofs.BoardBlocks.{has-true, rising_distinct, true-has}
use Rattle.cp_flip.specs.declared.block_trees.BlockTree.{BlockTree}
use Rattle.cp_flip.specs.GluedLists.{AreAppended, AreGlued, AreListsWithin, AreParts, IsPart, named_by, named_list}
use Rattle.cp_flip.proofs.EqualTests.{not_true, same_tests}

module _ (all verts edges : List ℕ) (lists : List (List ℕ)) (fit : AreListsWithin all verts edges lists) where
  -- no list is appended
  pub AreAppended-none : (old : List (List ℕ)) → AreAppended all verts edges lists 0 old old
  AreAppended-none old = record {
    row_each = refl;
    row_of = λ v c. sym (append-nil (slice_index_or old (rank all v) []));
  }

  -- the list of a vertex more is appended to its row
  pub AreAppended-more : (old new : List (List ℕ)) (k : ℕ) (row longer item : List ℕ) → length old ≡ length all
      → k < length verts → AreAppended all verts edges lists k old new
      → row ≡ get_or new (rank all (slice_index verts k)) row
      → longer ≡ row ++ map (slice_index edges) item → item ≡ slice_index_or lists k []
      → AreAppended all verts edges lists (k + 1) old (set new (rank all (slice_index verts k)) longer)
  AreAppended-more old new k row longer item size lt so row_is longer_is item_is = record {
    row_each = length-set new place longer ∙ so.row_each;
    row_of = λ v c. ⊎_elim
        (λ (same : v ≡ w).
        subst (λ u. get_or (set new place longer) (rank all u) []
        ≡ get_or old (rank all u) [] ++ cond (has (take (k + 1) verts) u) (map (slice_index edges) (get_or lists (rank verts u) [])) [])
        (sym same) here)
        (λ (other : v ≢ w).
        get_or-set_other new place (rank all v) longer [] (λ e. other (sym (rank_at all v c).1 ∙ ap (slice_index all) e ∙ (rank_at all w live).1))
        ∙ so.row_of v c
        ∙ ap (λ b. get_or old (rank all v) [] ++ cond b (map (slice_index edges) (get_or lists (rank verts v) [])) [])
        (same_tests (has (take k verts) v) (has (take (k + 1) verts) v)
        (λ t. has-true (take (k + 1) verts) v (subst (Has v) (sym more) (Has-append_left v (take k verts) (w ∷ []) (true-has (take k verts) v t))))
        (λ t. has-true (take k verts) v (⊎_elim
        (λ h. h)
        (λ h. absurd (other (⊎_elim (λ (e : w ≡ v). sym e) (λ n. absurd n) h)))
        (Has-append_cases v (take k verts) (w ∷ []) (subst (Has v) more (true-has (take (k + 1) verts) v t)))))))
        (cases_eq v w);
  }
    where
      w : ℕ
      w = slice_index verts k

      place : ℕ
      place = rank all w

      live : Contains all w
      live = fit.live w (Contains-get_or verts k 0 lt)

      more : take (k + 1) verts ≡ take k verts ++ w ∷ []
      more = take_more verts k 0 lt

      within : place < length new
      within = let at = (rank_at all w live).0 in omega (arith, at, size, so.row_each)

      before : has (take k verts) w ≡ false
      before = not_true (has (take k verts) w) (λ t.
          let p = Has-place w (take k verts) (true-has (take k verts) w t) in
          let low : p.0 < k = omega (arith, p.1, length-take-le k verts (omega (arith, lt))) in
          let at : slice_index verts p.0 ≡ w = sym (get_or-take k verts p.0 0 low) ∙ p.2 in
          let one = Distinct-once verts (rising_distinct verts fit.rise) p.0 k (omega (arith, low, lt)) lt at in
          omega (arith, one, low))

      after : has (take (k + 1) verts) w ≡ true
      after = has-true (take (k + 1) verts) w
          (subst (Has w) (sym more) (Has-append_right w (take k verts) (w ∷ []) (inl refl)))

      own : rank verts w ≡ k
      own = rank_is verts k w (rising_distinct verts fit.rise) lt refl

      here : get_or (set new place longer) place []
          ≡ get_or old place [] ++ cond (has (take (k + 1) verts) w) (map (slice_index edges) (get_or lists (rank verts w) [])) []
      here =
          get_or-set_same new place longer [] within
          ∙ longer_is
          ∙ ap₂ (λ us vs. us ++ map (slice_index edges) vs)
          (get_or_read new place row within row_is [] ∙ so.row_of w live
          ∙ ap (λ xs. get_or old place [] ++ xs) (cond-false {A = List ℕ} (has (take k verts) w) (map (slice_index edges) (get_or lists (rank verts w) [])) [] before)
          ∙ append-nil (get_or old place []))
          (item_is ∙ ap (λ n. get_or lists n []) (sym own))
          ∙ ap (λ xs. get_or old place [] ++ xs) (sym (cond-true {A = List ℕ} (has (take (k + 1) verts) w) (map (slice_index edges) (get_or lists (rank verts w) [])) [] after))

-- with one block more, whose lists are those of a part
AreParts-push : {T : Type 0} (i : Synchronized) (numbers : List ℕ) (back : ℕ → Bool) (ts : List (BlockTree T))
    (ps : List (ℕ → List ℕ)) (t : BlockTree T) (p : ℕ → List ℕ) → AreParts i numbers back ts ps
    → IsPart i numbers back t.edges p
    → AreParts i numbers back (ts ++ t ∷ []) (ps ++ p ∷ [])
AreParts-push i numbers back [] [] t p all one = (one, tt)
AreParts-push i numbers back [] (q ∷ ps) t p all one = absurd all
AreParts-push i numbers back (u ∷ ts) [] t p all one = absurd all
AreParts-push i numbers back (u ∷ ts) (q ∷ ps) t p all one = (all.0, AreParts-push i numbers back ts ps t p all.1 one)

module _ (i : Synchronized) (numbers : List ℕ) (back : ℕ → Bool) where
  -- no lists are put together
  pub AreGlued-none : {T : Type 0} → AreGlued {T = T} i numbers back [] (replicate (length (vert_names i)) [])
  AreGlued-none = record {
    parts = [];
    are_parts = tt;
    row_each = length-replicate (length (vert_names i)) [];
    row_of = λ v c. get_or-replicate {A = List ℕ} (length (vert_names i)) (rank (vert_names i) v) [] [] (rank_at (vert_names i) v c).0;
  }

  -- those of one block more are put behind the others
  pub AreGlued-more : {T : Type 0} (ts : List (BlockTree T)) (t : BlockTree T) (rows new lists : List (List ℕ))
      → AreGlued i numbers back ts rows → IsPart i numbers back t.edges (named_list t.verts t.edges lists)
      → AreAppended (vert_names i) t.verts t.edges lists (length t.verts) rows new
      → AreGlued i numbers back (ts ++ t ∷ []) new
  AreGlued-more ts t rows new lists so part app = record {
    parts = so.parts ++ p ∷ [];
    are_parts = AreParts-push i numbers back ts so.parts t p so.are_parts part;
    row_each = app.row_each ∙ so.row_each;
    row_of = λ v c.
        app.row_of v c
        ∙ ap₂ (λ us vs. us ++ vs) (so.row_of v c)
        (ap (λ us. cond (has us v) (map (slice_index t.edges) (slice_index_or lists (rank t.verts v) [])) [])
        (take_all (length t.verts) t.verts (omega arith)) ∙ sym (append-nil (p v)))
        ∙ sym (ap flat (map-append (λ (q : ℕ → List ℕ). q v) so.parts (p ∷ []))
        ∙ flat-append (map (λ (q : ℕ → List ℕ). q v) so.parts) (p v ∷ []));
  }
    where
      p : ℕ → List ℕ
      p = named_list t.verts t.edges lists

-- the list under a name, where each name has a list
pub list_in-each : (f : ℕ → List ℕ) (names : List ℕ) (v : ℕ) → Has v names
    → list_in (map (named_by f) names) v ≡ f v
list_in-each f [] v h = absurd h
list_in-each f (u ∷ names) v h = ⊎_elim
    (λ t.
    ap (λ o. option_map_or (λ (x : ℕ × List ℕ). x.1) o [])
    (cond-true (eqb u v) (Some (u, f u)) (find (λ (x : ℕ × List ℕ). eqb x.0 v) (map (named_by f) names)) t)
    ∙ ap f (eqb-true u v t))
    (λ e.
    ap (λ o. option_map_or (λ (x : ℕ × List ℕ). x.1) o [])
    (cond-false (eqb u v) (Some (u, f u)) (find (λ (x : ℕ × List ℕ). eqb x.0 v) (map (named_by f) names)) e)
    ∙ list_in-each f names v (⊎_elim (λ (same : u ≡ v). absurd (false≢true (sym e ∙ eq-eqb u v same))) (λ k. k) h))
    (cases_Bool (eqb u v))

-- the names are these
pub each-names : (f : ℕ → List ℕ) (names : List ℕ) → map (λ (x : ℕ × List ℕ). x.0) (map (named_by f) names) ≡ names
each-names f [] = refl
each-names f (u ∷ names) = ap (λ us. u ∷ us) (each-names f names)

-- the first of rising names, with lists, are less than the next one
pub before-less : (f : ℕ → List ℕ) (names : List ℕ) (k : ℕ) → IsStrictlyIncreasing names → k < length names
    → All (λ (x : ℕ × List ℕ). x.0 < slice_index names k) (map (named_by f) (take k names))
before-less f names k up lt j d l =
    let size : length (map (named_by f) (take k names)) ≡ k =
    length-map (take k names) (named_by f) ∙ length-take-le k names (omega (arith, lt)) in
    let low : j < k = omega (arith, l, size) in
    let at : slice_index_or (map (named_by f) (take k names)) j d ≡ (slice_index (take k names) j, f (slice_index (take k names) j)) =
    get_or-map (named_by f) (take k names) j 0 d (omega (arith, low, length-take-le k names (omega (arith, lt)))) in
    let less = AllPairs-from_increasing names up j k 0 low lt in
    let first : (slice_index_or (map (named_by f) (take k names)) j d).0 ≡ slice_index names j =
    ap (λ (x : ℕ × List ℕ). x.0) at ∙ get_or-take k names j 0 low in
    omega (arith, less, first)

-- one name more with its list
pub each-more : (f : ℕ → List ℕ) (names : List ℕ) (k : ℕ) → k < length names
    → map (named_by f) (take (k + 1) names)
    ≡ map (named_by f) (take k names) ++ (slice_index names k, f (slice_index names k)) ∷ []
each-more f names k lt =
    ap (map (named_by f)) (take_more names k 0 lt)
    ∙ map-append (named_by f) (take k names) (slice_index names k ∷ [])
