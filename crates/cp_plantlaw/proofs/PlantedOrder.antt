-- The edges of planted rows: each but the root edge goes to one kid, and each row stands behind the row of its parent.
use Rattle.std.proofs.Common.{◌≡◌, ◌⊎◌, ℕ, true, false, List, [], ◌∷◌, ◌++◌, append_assoc, map, sym, refl, ap, ◌∙◌, subst, subst₂, inl, inr, ⊎_elim, arith, IsPermutation}
use Rattle.std.specs.Prelude.{Option, Some, drop, find, take}
use Rattle.std.specs.List.{Contains, flat_map}
use Rattle.std.specs.Option.{option_map_or}
use Rattle.std.proofs.lemmas.Bool.{cond-false, cond-true}
use Rattle.std.proofs.lemmas.List.{map-append}
use Rattle.std.proofs.lemmas.List.Sorted.{IsPermutation-append, IsPermutation-append_comm, IsPermutation-append_left, IsPermutation-append_right, IsPermutation-cons, IsPermutation-middle, IsPermutation-refl, IsPermutation-sym, IsPermutation-trans}
use Rattle.cp_lists.specs.CyclicLists.{Distinct, Has, Lacks}
use Rattle.cp_lists.specs.Rows.{flat}
use Rattle.cp_lists.proofs.DistinctLists.{Distinct-apart, Distinct-apart_right, Distinct-append_right, Has-append_cases, Has-append_left, Has-append_right, Lacks-from, has_lacks}
use Rattle.cp_orbits.proofs.ClassLabels.{Contains-cons_cases}
use Rattle.cp_base.specs.declared.shape.Branch.{Branch}
use Rattle.cp_base.specs.Shapes.{leaves}
use Rattle.cp_board.specs.Names.{has}
use Rattle.cp_board.specs.Plantings.{Planted, Plants, PlantsAll, holder}
use Rattle.cp_board.proofs.ShapeEquations.{leaves_Leaf, leaves_P, leaves_Q}
use Rattle.cp_plantlaw.proofs.FreshNames.{has-false, has-true}

-- the edges to the kids of some rows
abbrev pub row_tails : List Planted → List ℕ
row_tails rows = flat (map (λ r. drop 1 r.edges) rows)

-- of rows one behind the other
pub row_tails-append : (hs bs : List Planted) → row_tails (hs ++ bs) ≡ row_tails hs ++ row_tails bs
row_tails-append [] bs = refl
row_tails-append (a ∷ hs) bs =
    ap (λ zs. drop 1 a.edges ++ zs) (row_tails-append hs bs)
    ∙ sym (append_assoc (drop 1 a.edges) (row_tails hs) (row_tails bs))

-- two pairs of lists, each exchanged in the middle
exchanged_middle : (ws xs ys zs : List ℕ) → IsPermutation ((ws ++ xs) ++ (ys ++ zs)) ((ws ++ ys) ++ (xs ++ zs))
exchanged_middle ws xs ys zs =
    let inner : IsPermutation (xs ++ (ys ++ zs)) (ys ++ (xs ++ zs)) =
    subst (IsPermutation (xs ++ (ys ++ zs))) (append_assoc ys xs zs)
    (subst (λ us. IsPermutation us ((ys ++ xs) ++ zs)) (append_assoc xs ys zs)
    (IsPermutation-append_left zs (xs ++ ys) (ys ++ xs) (IsPermutation-append_comm xs ys))) in
    subst (λ us. IsPermutation us ((ws ++ ys) ++ (xs ++ zs))) (sym (append_assoc ws xs (ys ++ zs)))
    (subst (IsPermutation (ws ++ (xs ++ (ys ++ zs)))) (sym (append_assoc ws ys (xs ++ zs)))
    (IsPermutation-append_right ws (xs ++ (ys ++ zs)) (ys ++ (xs ++ zs)) inner))

-- one item more on both sides
under_top : (top : ℕ) (xs ys es : List ℕ) → IsPermutation xs (ys ++ es) → IsPermutation (top ∷ xs) (ys ++ top ∷ es)
under_top top xs ys es p = IsPermutation-trans (top ∷ xs) (top ∷ (ys ++ es)) (ys ++ top ∷ es)
    (IsPermutation-cons top xs (ys ++ es) p)
    (IsPermutation-sym (ys ++ top ∷ es) (top ∷ (ys ++ es)) (IsPermutation-middle ys top es))

-- the root edge and the edges to kids are the leaves and the edges from above
mutual
  pub planted-tails : (f : ℕ → ℕ) (b : Branch) (top : ℕ) (vs es : List ℕ) (rows : List Planted)
      → Plants f b top vs es rows
      → IsPermutation (top ∷ row_tails rows) (map f (leaves b) ++ es)
  planted-tails f _ _ _ _ _ (Plants.leaf x) =
      subst (λ zs. IsPermutation (f x ∷ []) (map f zs ++ [])) (sym (leaves_Leaf x)) (IsPermutation-refl (f x ∷ []))
  planted-tails f _ _ _ _ _ (Plants.free kids top v tops vs es rows all) =
      subst (λ zs. IsPermutation (top ∷ (tops ++ row_tails rows)) (map f zs ++ top ∷ es)) (sym (leaves_P kids))
      (under_top top (tops ++ row_tails rows) (map f (flat_map leaves kids)) es (kids-tails f kids tops vs es rows all))
  planted-tails f _ _ _ _ _ (Plants.fixed kids top v tops vs es rows all) =
      subst (λ zs. IsPermutation (top ∷ (tops ++ row_tails rows)) (map f zs ++ top ∷ es)) (sym (leaves_Q kids))
      (under_top top (tops ++ row_tails rows) (map f (flat_map leaves kids)) es (kids-tails f kids tops vs es rows all))

  -- the same of the kids of a node
  kids-tails : (f : ℕ → ℕ) (kids : List Branch) (tops vs es : List ℕ) (rows : List Planted)
      → PlantsAll f kids tops vs es rows
      → IsPermutation (tops ++ row_tails rows) (map f (flat_map leaves kids) ++ es)
  kids-tails f _ _ _ _ _ PlantsAll.none = IsPermutation-refl []
  kids-tails f _ _ _ _ _ (PlantsAll.more k ks top tops us vs ds es rows more_rows one rest) =
      let ls : List ℕ = map f (leaves k) in
      let ms : List ℕ = map f (flat_map leaves ks) in
      subst₂ IsPermutation (ap (λ zs. (top ∷ tops) ++ zs) (sym (row_tails-append rows more_rows)))
      (ap (λ zs. zs ++ (ds ++ es)) (sym (map-append f (leaves k) (flat_map leaves ks))))
      (IsPermutation-trans ((top ∷ tops) ++ (row_tails rows ++ row_tails more_rows))
      ((top ∷ row_tails rows) ++ (tops ++ row_tails more_rows)) ((ls ++ ms) ++ (ds ++ es))
      (exchanged_middle (top ∷ []) tops (row_tails rows) (row_tails more_rows))
      (IsPermutation-trans ((top ∷ row_tails rows) ++ (tops ++ row_tails more_rows)) ((ls ++ ds) ++ (ms ++ es))
      ((ls ++ ms) ++ (ds ++ es))
      (IsPermutation-append (top ∷ row_tails rows) (ls ++ ds) (tops ++ row_tails more_rows) (ms ++ es)
      (planted-tails f k top us ds rows one) (kids-tails f ks tops vs es more_rows rest))
      (exchanged_middle ls ds ms es)))

-- each row begins with an edge that was seen before: one of these, or an edge to a kid of an earlier row
abbrev pub Led : List ℕ → List Planted → Type 0
Led seen [] = Unit {0}
Led seen (r ∷ rows) = ((x : ℕ) → Has x (take 1 r.edges) → Has x seen) × Led (seen ++ drop 1 r.edges) rows

-- where more was seen
led-more : (seen more : List ℕ) (rows : List Planted) → ((x : ℕ) → Has x seen → Has x more) → Led seen rows
    → Led more rows
led-more seen more [] inside h = tt
led-more seen more (r ∷ rows) inside h = (
  (λ x k. inside x (h.0 x k)),
  led-more (seen ++ drop 1 r.edges) (more ++ drop 1 r.edges) rows
      (λ x k. ⊎_elim
      (λ l. Has-append_left x more (drop 1 r.edges) (inside x l))
      (λ l. Has-append_right x more (drop 1 r.edges) l)
      (Has-append_cases x seen (drop 1 r.edges) k)) h.1,
)

-- rows one behind the other
led-append : (seen : List ℕ) (hs bs : List Planted) → Led seen hs → Led seen bs → Led seen (hs ++ bs)
led-append seen [] bs one two = two
led-append seen (r ∷ hs) bs one two = (
  one.0,
  led-append (seen ++ drop 1 r.edges) hs bs one.1
      (led-more seen (seen ++ drop 1 r.edges) bs (λ x h. Has-append_left x seen (drop 1 r.edges) h) two),
)

-- planted rows stand behind those of their parents
mutual
  pub planted-Led : (f : ℕ → ℕ) (b : Branch) (top : ℕ) (vs es : List ℕ) (rows : List Planted)
      → Plants f b top vs es rows → (seen : List ℕ) → Has top seen → Led seen rows
  planted-Led f _ _ _ _ _ (Plants.leaf x) seen h = tt
  planted-Led f _ _ _ _ _ (Plants.free kids top v tops vs es rows all) seen h = (
    (λ x k. ⊎_elim (λ e. subst (λ y. Has y seen) e h) (λ none. absurd none) k),
    kids-Led f kids tops vs es rows all (seen ++ tops) (λ x k. Has-append_right x seen tops k),
  )
  planted-Led f _ _ _ _ _ (Plants.fixed kids top v tops vs es rows all) seen h = (
    (λ x k. ⊎_elim (λ e. subst (λ y. Has y seen) e h) (λ none. absurd none) k),
    kids-Led f kids tops vs es rows all (seen ++ tops) (λ x k. Has-append_right x seen tops k),
  )

  -- the same of the kids of a node
  kids-Led : (f : ℕ → ℕ) (kids : List Branch) (tops vs es : List ℕ) (rows : List Planted)
      → PlantsAll f kids tops vs es rows → (seen : List ℕ) → ((x : ℕ) → Has x tops → Has x seen) → Led seen rows
  kids-Led f _ _ _ _ _ PlantsAll.none seen h = tt
  kids-Led f _ _ _ _ _ (PlantsAll.more k ks top tops us vs ds es rows more_rows one rest) seen h =
      led-append seen rows more_rows
      (planted-Led f k top us ds rows one seen (h top (inl refl)))
      (kids-Led f ks tops vs es more_rows rest seen (λ x g. h x (inr g)))

-- an edge that is first or later in a list is one of it
head_or_tail : (es : List ℕ) (x : ℕ) → Has x es → Has x (take 1 es) ⊎ Has x (drop 1 es)
head_or_tail [] x h = absurd h
head_or_tail (e ∷ es) x h = ⊎_elim (λ s. inl (inl s)) (λ k. inr k) h

-- an item behind the first is one of the list
tail_item : (es : List ℕ) (x : ℕ) → Has x (drop 1 es) → Has x es
tail_item [] x h = absurd h
tail_item (e ∷ es) x h = inr h

-- an edge to a kid of one row is one of all
pub tail_of_row : (rows : List Planted) (r : Planted) (x : ℕ) → Contains rows r → Has x (drop 1 r.edges)
    → Has x (row_tails rows)
tail_of_row [] r x c h = absurd (omega (arith, c.1))
tail_of_row (q ∷ rows) r x c h = ⊎_elim
    (λ (e : q ≡ r). Has-append_left x (drop 1 q.edges) (row_tails rows)
    (subst (λ (y : Planted). Has x (drop 1 y.edges)) (sym e) h))
    (λ k. Has-append_right x (drop 1 q.edges) (row_tails rows) (tail_of_row rows r x k h))
    (Contains-cons_cases q r rows c)

-- the holder of an edge to a kid is the vertex of its row
pub holder-of_row : (seen : List ℕ) (rows : List Planted) → Led seen rows → Distinct (seen ++ row_tails rows)
    → (r : Planted) (x : ℕ) → Contains rows r → Has x (drop 1 r.edges) → holder rows x ≡ r.vertex
holder-of_row seen [] led once r x c h = absurd (omega (arith, c.1))
holder-of_row seen (q ∷ rows) led once r x c h =
    let rest : Option Planted = find (λ (y : Planted). has y.edges x) rows in
    let tail : List ℕ = drop 1 q.edges in
    ⊎_elim
    (λ (e : q ≡ r).
    let here : has q.edges x ≡ true =
    has-true q.edges x (tail_item q.edges x (subst (λ (y : Planted). Has x (drop 1 y.edges)) (sym e) h)) in
    ap (λ o. option_map_or (λ (y : Planted). y.vertex) o 0) (cond-true (has q.edges x) (Some q) rest here)
    ∙ ap (λ (y : Planted). y.vertex) e)
    (λ k.
    let later : Has x (row_tails rows) = tail_of_row rows r x k h in
    let in_rest : Has x (tail ++ row_tails rows) = Has-append_right x tail (row_tails rows) later in
    let not_seen : Lacks x seen = Distinct-apart_right x seen (tail ++ row_tails rows) once in_rest in
    let not_tail : Lacks x tail = Distinct-apart_right x tail (row_tails rows)
    (Distinct-append_right seen (tail ++ row_tails rows) once) later in
    let none : has q.edges x ≡ false = has-false q.edges x (Lacks-from x q.edges (λ g. ⊎_elim
    (λ a. has_lacks x seen (led.0 x a) not_seen)
    (λ b. has_lacks x tail b not_tail)
    (head_or_tail q.edges x g))) in
    ap (λ o. option_map_or (λ (y : Planted). y.vertex) o 0) (cond-false (has q.edges x) (Some q) rest none)
    ∙ holder-of_row (seen ++ tail) rows led.1 (subst Distinct
    (sym (append_assoc seen tail (row_tails rows))) once) r x k h)
    (Contains-cons_cases q r rows c)

-- no edge from above of a row goes to a kid of it
pub top-no_tail : (seen : List ℕ) (rows : List Planted) → Led seen rows → Distinct (seen ++ row_tails rows)
    → (r : Planted) (x : ℕ) → Contains rows r → Has x (take 1 r.edges) → Has x (drop 1 r.edges) → ⊥
top-no_tail seen [] led once r x c top h = absurd (omega (arith, c.1))
top-no_tail seen (q ∷ rows) led once r x c top h =
    let tail : List ℕ = drop 1 q.edges in
    ⊎_elim
    (λ (e : q ≡ r).
    let t : Has x tail = subst (λ (y : Planted). Has x (drop 1 y.edges)) (sym e) h in
    has_lacks x (tail ++ row_tails rows) (Has-append_left x tail (row_tails rows) t)
    (Distinct-apart x seen (tail ++ row_tails rows) once (led.0 x
    (subst (λ (y : Planted). Has x (take 1 y.edges)) (sym e) top))))
    (λ k. top-no_tail (seen ++ tail) rows led.1 (subst Distinct
    (sym (append_assoc seen tail (row_tails rows))) once) r x k top h)
    (Contains-cons_cases q r rows c)
