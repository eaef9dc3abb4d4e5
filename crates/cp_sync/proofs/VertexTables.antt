-- The lists of edges of all vertices, where an edge is added.
use Rattle.std.proofs.Common.{◌≡◌, ◌≢◌, ℕ, ◌+◌, ◌<◌, ◌⊎◌, Bool, true, false, ◌||◌, eqb, List, [], ◌∷◌, ◌++◌, length, map, take, slice_index, slice_index_or, slice_set, sym, refl, ap, ◌∙◌, inl, inr, ⊎_elim, arith}
use Rattle.std.specs.Prelude.{filter}
use Rattle.std.specs.List.{Contains}
use Rattle.std.specs.List.Sorted.{IsStrictlyIncreasing}
use Rattle.std.proofs.lemmas.Bool.{cases_eq, cond-true, cond-false, eq-eqb, ne_eqb}
use Rattle.std.proofs.lemmas.List.{get_or-map, get_or-set_same, get_or-set_other, length-map, length-set, append-nil, take_more, map-append}
use Rattle.std.proofs.lemmas.List.Elements.{filter-append}
use Rattle.cp_board.specs.declared.parts.Vert.{Vert}
use Rattle.cp_board.specs.declared.parts.EdgeRow.{EdgeRow}
use Rattle.std.specs.Prelude.{Option, None}
use Rattle.std.specs.Option.{option_map}
use Rattle.cp_board.specs.declared.parts.Pipe.{Pipe}
use Rattle.cp_board.specs.Instances.{Synchronized, IsSynchronized, names_of_verts, vert_names, names_at, edges_of, pipe_at, pipe_with}
use Rattle.cp_board.proofs.EdgesOfVertices.{edges_of-rows}
use Rattle.cp_sync.specs.Places.{IsLowerPlace}
use Rattle.cp_sync.specs.Tables.{AreAdjacent, ArePiped, AreEmpty, IsPut, vert_at}
use Rattle.cp_sync.proofs.Places.{live_place, same_place}

-- an edge that ends at v is its only edge
pub names_at-end : (e : EdgeRow) (v : ℕ) → (e.a ≡ v) ⊎ (e.b ≡ v) → names_at (e ∷ []) v ≡ e.name ∷ []
names_at-end e v end =
    ap (map (λ x. x.name)) (cond-true (eqb e.a v || eqb e.b v) (e ∷ []) [] (⊎_elim (λ h. ap (λ b. b || eqb e.b v) (eq-eqb e.a v h)) (λ h. or_right (eqb e.a v) (eqb e.b v) (eq-eqb e.b v h)) end))
  where
    or_right : (a b : Bool) → b ≡ true → (a || b) ≡ true
    or_right true b t = refl
    or_right false b t = t

-- an edge that does not end at v is none of its edges
pub names_at-elsewhere : (e : EdgeRow) (v : ℕ) → e.a ≢ v → e.b ≢ v → names_at (e ∷ []) v ≡ []
names_at-elsewhere e v not_a not_b =
    ap (map (λ x. x.name)) (cond-false (eqb e.a v || eqb e.b v) (e ∷ []) [] (ap (λ b. b || eqb e.b v) (ne_eqb e.a v not_a) ∙ ne_eqb e.b v not_b))

-- the edges with an end v of one list and another
pub names_at-append : (es fs : List EdgeRow) (v : ℕ) → names_at (es ++ fs) v ≡ names_at es v ++ names_at fs v
names_at-append es fs v =
    ap (map (λ e. e.name)) (filter-append (λ (e : EdgeRow). eqb e.a v || eqb e.b v) es fs)
    ∙ map-append (λ (e : EdgeRow). e.name) (filter (λ e. eqb e.a v || eqb e.b v) es) (filter (λ e. eqb e.a v || eqb e.b v) fs)

-- an edge is pushed to the lists at the places of its two ends
pub IsPut-from : (verts : List Vert) (e : EdgeRow) (at mid new : List (List ℕ)) (ka kb : ℕ)
    → IsStrictlyIncreasing (names_of_verts verts)
    → Contains (names_of_verts verts) e.a × Contains (names_of_verts verts) e.b
    → e.a ≢ e.b
    → length at ≡ length verts
    → IsLowerPlace (names_of_verts verts) e.a ka
    → IsLowerPlace (names_of_verts verts) e.b kb
    → mid ≡ slice_set at ka (slice_index_or at ka [] ++ e.name ∷ [])
    → new ≡ slice_set mid kb (slice_index_or mid kb [] ++ e.name ∷ [])
    → IsPut verts e at new
IsPut-from verts e at mid new ka kb up live ne size low_a low_b is_mid is_new = record {
  one_each = ap length is_new ∙ length-set mid kb (slice_index_or mid kb [] ++ e.name ∷ []) ∙ mid_size;
  each = λ k lt. ⊎_elim (λ h. first k h) (λ no_a. ⊎_elim (λ h. second k h no_a) (λ no_b. neither k lt no_a no_b) (cases_eq k kb)) (cases_eq k ka);
}
  where
    names : List ℕ
    names = names_of_verts verts

    at_a : (ka < length names) × (slice_index names ka ≡ e.a)
    at_a = live_place names e.a ka up live.0 low_a

    at_b : (kb < length names) × (slice_index names kb ≡ e.b)
    at_b = live_place names e.b kb up live.1 low_b

    in_verts : (k : ℕ) → k < length names → k < length verts
    in_verts k lt = omega (arith, length-map verts (λ (v : Vert). v.name))

    apart : ka ≢ kb
    apart h = ne (sym at_a.1 ∙ ap (slice_index names) h ∙ at_b.1)

    mid_size : length mid ≡ length at
    mid_size = ap length is_mid ∙ length-set at ka (slice_index_or at ka [] ++ e.name ∷ [])

    name_of : (k : ℕ) → k < length verts → slice_index names k ≡ (vert_at verts k).name
    name_of k lt = get_or-map (λ (v : Vert). v.name) verts k _ 0 lt

    first : (k : ℕ) → k ≡ ka → slice_index_or new k [] ≡ slice_index_or at k [] ++ names_at (e ∷ [])
        (vert_at verts k).name
    first k h = rw h
        (ap (λ l. slice_index_or l ka []) is_new
        ∙ get_or-set_other mid kb ka (slice_index_or mid kb [] ++ e.name ∷ []) [] apart
        ∙ ap (λ l. slice_index_or l ka []) is_mid
        ∙ get_or-set_same at ka (slice_index_or at ka [] ++ e.name ∷ []) [] (omega (arith, in_verts ka at_a.0, size))
        ∙ ap (λ l. slice_index_or at ka [] ++ l) (sym (names_at-end e (vert_at verts ka).name (inl (sym at_a.1 ∙ name_of ka (in_verts ka at_a.0))))))

    second : (k : ℕ) → k ≡ kb → k ≢ ka → slice_index_or new k [] ≡ slice_index_or at k [] ++ names_at (e ∷ [])
        (vert_at verts k).name
    second k h no_a = rw h
        (ap (λ l. slice_index_or l kb []) is_new
        ∙ get_or-set_same mid kb (slice_index_or mid kb [] ++ e.name ∷ []) [] (omega (arith, in_verts kb at_b.0, size, mid_size))
        ∙ ap (λ l. l ++ e.name ∷ []) (ap (λ l. slice_index_or l kb []) is_mid ∙ get_or-set_other at ka kb (slice_index_or at ka [] ++ e.name ∷ []) [] (λ g. apart (sym g)))
        ∙ ap (λ l. slice_index_or at kb [] ++ l) (sym (names_at-end e (vert_at verts kb).name (inr (sym at_b.1 ∙ name_of kb (in_verts kb at_b.0))))))

    neither : (k : ℕ) → k < length verts → k ≢ ka → k ≢ kb
        → slice_index_or new k [] ≡ slice_index_or at k [] ++ names_at (e ∷ []) (vert_at verts k).name
    neither k lt no_a no_b =
        let in_names : k < length names = omega (arith, length-map verts (λ (v : Vert). v.name)) in
        ap (λ l. slice_index_or l k []) is_new
        ∙ get_or-set_other mid kb k (slice_index_or mid kb [] ++ e.name ∷ []) [] no_b
        ∙ ap (λ l. slice_index_or l k []) is_mid
        ∙ get_or-set_other at ka k (slice_index_or at ka [] ++ e.name ∷ []) [] no_a
        ∙ sym (append-nil (slice_index_or at k []))
        ∙ ap (λ l. slice_index_or at k [] ++ l) (sym (names_at-elsewhere e (vert_at verts k).name
        (λ h. no_a (same_place names up k ka in_names at_a.0 (name_of k lt ∙ sym h ∙ sym at_a.1)))
        (λ h. no_b (same_place names up k kb in_names at_b.0 (name_of k lt ∙ sym h ∙ sym at_b.1)))))

-- empty lists are those of no edge
pub AreAdjacent-empty : (verts : List Vert) (lists : List (List ℕ)) → AreEmpty (length verts) lists
    → AreAdjacent verts [] lists
AreAdjacent-empty verts lists empty = record { one_each = empty.size; each = empty.each }

-- with one edge more
pub AreAdjacent-more : (verts : List Vert) (es : List EdgeRow) (i : ℕ) (e : EdgeRow) (at new : List (List ℕ))
    → i < length es
    → e ≡ slice_index_or es i e
    → AreAdjacent verts (take i es) at
    → IsPut verts e at new
    → AreAdjacent verts (take (i + 1) es) new
AreAdjacent-more verts es i e at new lt is so put = record {
  one_each = put.one_each ∙ so.one_each;
  each = λ k l.
      put.each k l
      ∙ ap (λ xs. xs ++ names_at (e ∷ []) (vert_at verts k).name) (so.each k l)
      ∙ sym (names_at-append (take i es) (e ∷ []) (vert_at verts k).name)
      ∙ ap (λ xs. names_at xs (vert_at verts k).name) (sym (take_more es i e lt ∙ ap (λ x. take i es ++ x ∷ []) (sym is)));
}

-- the place of a live vertex is one of the vertices
pub live_vertex : (i : Synchronized) (v k : ℕ) → IsSynchronized i → Contains (vert_names i) v
    → IsLowerPlace (vert_names i) v k
    → (k < length i.verts) × ((vert_at i.verts k).name ≡ v)
live_vertex i v k is c low =
    let at = live_place (vert_names i) v k is.verts_named.rise c low in
    let lt : k < length i.verts = omega (arith, at.0, length-map i.verts (λ (x : Vert). x.name)) in
    (lt, sym (get_or-map (λ (x : Vert). x.name) i.verts k _ 0 lt) ∙ at.1)

-- its list is that of its edges
pub edges_of-value : (i : Synchronized) (at : List (List ℕ)) (v k : ℕ) → IsSynchronized i
    → AreAdjacent i.verts i.edges at
    → Contains (vert_names i) v
    → IsLowerPlace (vert_names i) v k
    → slice_index_or at k [] ≡ edges_of i v
edges_of-value i at v k is so c low =
    let here = live_vertex i v k is c low in
    so.each k here.0 ∙ ap (names_at i.edges) here.1 ∙ sym (edges_of-rows i v is)

-- its pipe is that of which it is an end
pub pipe_at-value : (i : Synchronized) (at : List (Option ℕ)) (v k : ℕ) → IsSynchronized i
    → ArePiped i.verts i.pipes at
    → Contains (vert_names i) v
    → IsLowerPlace (vert_names i) v k
    → slice_index_or at k None ≡ option_map (λ p. p.name) (pipe_at i v)
pipe_at-value i at v k is so c low =
    let here = live_vertex i v k is c low in
    so.each k here.0 ∙ ap (λ n. option_map (λ (p : Pipe). p.name) (pipe_with i.pipes n)) here.1
