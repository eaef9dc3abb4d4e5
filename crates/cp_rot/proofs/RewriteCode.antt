-- What the code of the rewrites needs: places, parts put together, and the system that the parts make.
use Rattle.std.proofs.Common.{◌≡◌, ℕ, ◌+◌, ◌-◌, ◌*◌, ◌/◌, ◌<◌, ◌≤◌, ◌≢◌, List, [], ◌∷◌, ◌++◌, length, take, drop, eqb, slice_index, slice_index_or, sym, ap, ap₂, ◌∙◌, subst, ⊎_elim, arith, append_assoc, take_all, length-drop}
use Rattle.std.specs.List.{Contains, position_or_len}
use Rattle.std.proofs.lemmas.Bool.{cases_eq, eq-eqb, ne_eqb, cond-true, cond-false}
use Rattle.std.proofs.lemmas.List.Sums.{position_or_len_is}
use Rattle.cp_orbits.specs.Orbits.{exchange}
use Rattle.cp_lists.proofs.ExactLists.{place_of}
use Rattle.cp_rot.specs.Systems.{System, darts, edges, IsRotation}
use Rattle.cp_rot.specs.Tables.{system_of}
use Rattle.cp_rot.specs.Rewrites.{values, system, spliced, deleted, merged}
use Rattle.cp_rot.specs.RewriteTables.{kept_at, kept_list, joined_at, joined_list, IsAbsentBefore}
use Rattle.cp_rot.proofs.ListEdits.{length-values}

-- the place where the items before are others
pub place_until : (xs : List ℕ) (d i : ℕ) → i ≤ length xs → IsAbsentBefore xs d i
    → (i < length xs → slice_index xs i ≡ d) → i ≡ position_or_len (λ x. eqb x d) xs
place_until xs d i le absent here = sym (position_or_len_is (λ x. eqb x d) xs i 0 le (λ k lt. ne_eqb (slice_index xs k) d (absent k lt)) (λ lt. eq-eqb (slice_index xs i) d (here lt)))

-- an item that is contained does not stand behind all places
pub absent_everywhere : (xs : List ℕ) (d i : ℕ) → length xs ≤ i → IsAbsentBefore xs d i → Contains xs d → ⊥
absent_everywhere xs d i le absent c = let h = place_of xs d c in absent h.0 (omega (arith, h.1)) h.2

-- one item more that is another
pub absent_more : (xs : List ℕ) (d i : ℕ) → IsAbsentBefore xs d i → slice_index xs i ≢ d → IsAbsentBefore xs d (i + 1)
absent_more xs d i absent ne k lt = ⊎_elim (λ e f. ne (ap (slice_index xs) (sym e) ∙ f)) (λ nk. absent k (omega arith)) (cases_eq k i)

-- the parts in their order make the whole
pub parts_spliced : (first second : List ℕ) (d f i j : ℕ) → i ≡ position_or_len (λ x. eqb x d) first
    → j ≡ position_or_len (λ x. eqb x f) second
    → ((((take i first ++ d ∷ []) ++ drop (j + 1) second) ++ take j second) ++ f ∷ []) ++ drop (i + 1) first
    ≡ spliced d f first second
parts_spliced first second d f i j ei ej =
    append_assoc (((take i first ++ d ∷ []) ++ drop (j + 1) second) ++ take j second) (f ∷ []) (drop (i + 1) first)
    ∙ append_assoc ((take i first ++ d ∷ []) ++ drop (j + 1) second) (take j second) (f ∷ drop (i + 1) first)
    ∙ append_assoc (take i first ++ d ∷ []) (drop (j + 1) second) (take j second ++ f ∷ drop (i + 1) first)
    ∙ append_assoc (take i first) (d ∷ []) (drop (j + 1) second ++ (take j second ++ f ∷ drop (i + 1) first))
    ∙ ap (λ zs. take i first ++ d ∷ zs) (sym (append_assoc (drop (j + 1) second) (take j second) (f ∷ drop (i + 1) first)))
    ∙ ap₂ (λ (a b : ℕ). take a first ++ d ∷ ((drop (b + 1) second ++ take b second) ++ f ∷ drop (a + 1) first)) ei ej

-- a system of values with as many vertices
pub values_system : (v e : ℕ) (at : ℕ → ℕ) (lists : ℕ → List ℕ)
    → system_of (values (2 * e) at) (values v lists) ≡ system v e at lists
values_system v e at lists =
    let with : ℕ → System = λ n. record { vertices = n; at = values (2 * e) at; lists = values v lists } in
    ap with (length-values v lists)

-- the parts without an edge make the system without it
pub deleted_is : (e : ℕ) (at : List ℕ) (lists : List (List ℕ)) {at' : List ℕ} {lists' : List (List ℕ)}
    → at' ≡ values (2 * (length at / 2 - 1)) (kept_at at e (length at / 2 - 1))
    → lists' ≡ values (length lists) (kept_list lists e (length at / 2 - 1))
    → system_of at' lists' ≡ deleted (system_of at lists) e
deleted_is e at lists {at'} {lists'} e_at e_lists = ap₂ system_of e_at e_lists ∙ values_system (length lists) (length at / 2 - 1) (kept_at at e (length at / 2 - 1)) (kept_list lists e (length at / 2 - 1))

-- the parts with two vertices made one make that system
pub joined_is : (d f u w : ℕ) {at at' : List ℕ} {lists lists' : List (List ℕ)} → IsRotation (system_of at lists)
    → u ≡ slice_index at d → w ≡ slice_index at f → at' ≡ values (length at) (joined_at at u w (length lists - 1))
    → lists' ≡ values (length lists - 1) (joined_list lists u w (length lists - 1) d f)
    → system_of at' lists' ≡ merged (system_of at lists) d f
joined_is d f u w {at} {at'} {lists} {lists'} is eu ew e_at e_lists =
    ap₂ system_of (e_at ∙ ap (λ n. values n (joined_at at u w (length lists - 1))) is.paired) e_lists
    ∙ values_system (length lists - 1) (edges (system_of at lists)) (joined_at at u w (length lists - 1)) (joined_list lists u w (length lists - 1) d f)
    ∙ ap₂ (λ x y. system (length lists - 1) (edges (system_of at lists)) (joined_at at x y (length lists - 1)) (joined_list lists x y (length lists - 1) d f)) eu ew

-- the parts of a list of darts and lists, by another name of the system
pub made_from : (f : System → System) {at at' : List ℕ} {lists lists' : List (List ℕ)} {r : System}
    → {xs : List ℕ} {ys : List (List ℕ)} → xs ≡ at → ys ≡ lists → system_of at lists ≡ r
    → system_of at' lists' ≡ f (system_of xs ys) → system_of at' lists' ≡ f r
made_from f e_at e_lists same made = made ∙ ap f (ap₂ system_of e_at e_lists ∙ same)

-- list v, read at its place, with the list of w put in where it is that of u
pub joined_list_first : (lists : List (List ℕ)) (u w last d f v old : ℕ) {list xs ys : List ℕ} → old ≡ exchange w last v
    → old ≡ u → xs ≡ slice_index_or lists u [] → ys ≡ slice_index_or lists w [] → list ≡ spliced d f xs ys
    → list ≡ joined_list lists u w last d f v
joined_list_first lists u w last d f v old eo eu ex ey e =
    let at_u : exchange w last v ≡ u = sym eo ∙ eu in
    e ∙ ap₂ (spliced d f) (ex ∙ ap (λ x. slice_index_or lists x []) (sym at_u)) ey
    ∙ sym (cond-true (eqb (exchange w last v) u) (spliced d f (slice_index_or lists (exchange w last v) []) (slice_index_or lists w [])) (slice_index_or lists (exchange w last v) []) (eq-eqb (exchange w last v) u at_u))

-- and left alone where it is another
pub joined_list_other : (lists : List (List ℕ)) (u w last d f v old : ℕ) {list xs : List ℕ} → old ≡ exchange w last v
    → (old ≡ u → ⊥) → xs ≡ slice_index_or lists old [] → list ≡ xs → list ≡ joined_list lists u w last d f v
joined_list_other lists u w last d f v old eo ne ex e =
    e ∙ ex ∙ ap (λ x. slice_index_or lists x []) eo
    ∙ sym (cond-false (eqb (exchange w last v) u) (spliced d f (slice_index_or lists (exchange w last v) []) (slice_index_or lists w [])) (slice_index_or lists (exchange w last v) []) (ne_eqb (exchange w last v) u (λ h. ne (eo ∙ h))))

-- the slice from a place on is what is left there
pub rest_of : (xs : List ℕ) (i : ℕ) → take (length xs - i) (drop i xs) ≡ drop i xs
rest_of xs i = take_all (length xs - i) (drop i xs) (omega (arith, length-drop i xs))

-- the darts of the parts of a rotation system come in pairs
pub paired_parts : (r : System) {at xs : List ℕ} {lists : List (List ℕ)} → xs ≡ at → system_of at lists ≡ r
    → IsRotation r → length xs ≡ 2 * (length xs / 2)
paired_parts r e same is = subst (λ n. n ≡ 2 * (n / 2)) (sym (ap length e ∙ ap darts same)) is.paired

-- an edge of the system is one of the parts
pub edge_of_parts : (r : System) (k : ℕ) {at xs : List ℕ} {lists : List (List ℕ)} → xs ≡ at → system_of at lists ≡ r
    → k < edges r → k < length xs / 2
edge_of_parts r k e same lt = subst (λ n. k < n / 2) (sym (ap length e ∙ ap darts same)) lt
