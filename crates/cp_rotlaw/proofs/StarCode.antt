-- Components without a vertex, the parts that its edges enter, and the rows of the parts, as the program finds them.
use Rattle.std.proofs.Common.{◌≡◌, ◌≢◌, ℕ, ◌+◌, ◌*◌, ◌/◌, ◌<◌, cond, eqb, List, [], ◌∷◌, ◌++◌, length, take, map, get_or, set, slice_index, slice_index_or, sym, refl, ap, ap₂, ◌∙◌, subst, subst₂, inl, inr, ⊎_elim, arith}
use Rattle.std.specs.List.{Contains}
use Rattle.std.proofs.lemmas.Bool.{cases_eq, cases_lt, eq-eqb, ne_eqb, eqb-true}
use Rattle.std.proofs.lemmas.List.{get_or-set_same, get_or-set_other, length-set, get_or_past, take_more, get_or_default, get_or-map, length-map}
use Rattle.std.proofs.lemmas.List.Elements.{filter_more}
use Rattle.cp_base.specs.Graphs.{AreWithin}
use Rattle.cp_orbits.specs.Connected.{Connected}
use Rattle.cp_orbits.proofs.ClassLabels.{Connected-closed}
use Rattle.cp_conn.specs.CutVertex.{avoids, without_vertex}
use Rattle.cp_conn.specs.Numbering.{AreNumbered}
use Rattle.cp_conn.proofs.CutVertices.{kept_pair, avoided}
use Rattle.cp_conn.proofs.NumberedClasses.{connected_by_number, number_of_connected}
use Rattle.cp_rot.specs.Systems.{System, darts, vertex_of, list_of, IsRotation}
use Rattle.cp_faces.specs.Twins.{twin}
use Rattle.cp_rot.specs.Genus.{end_pairs}
use Rattle.cp_rot.specs.Tables.{stands_at}
use Rattle.cp_rot.proofs.Rotations.{item_stands}
use Rattle.cp_faces.proofs.Twins.{twin-below}
use Rattle.cp_rot.proofs.Searches.{end_pair_at, pair_of_edge}
use Rattle.cp_rotlaw.specs.Systems.{HasNoLoopAt}
use Rattle.cp_rotlaw.specs.Stars.{IsDartOf}
use Rattle.cp_rotlaw.proofs.PartPlaces.{ArePlaced-new, ArePlaced-old, ArePlaced-skip, parts-le, place-apart, place-least, place-seen, place-some, place-within}
use Rattle.cp_rotlaw.specs.StarParts.{far_key, ArePlaced, AreEntered, part_of, star_row, AreRows}

-- the other end of a dart is a vertex
pub far_within : (r : System) → IsRotation r → (d : ℕ) → d < darts r
    → (twin d < darts r) × (vertex_of r (twin d) < r.vertices)
far_within r is d lt = let below = twin-below (darts r) d is.paired lt in (below, is.placed (twin d) below)

-- there are half as many pairs as items
pub length-end_pairs : (at : List ℕ) → length (end_pairs at) ≡ length at / 2
length-end_pairs [] = refl
length-end_pairs (s ∷ []) = refl
length-end_pairs (s ∷ t ∷ at) = omega (arith, length-end_pairs at)

-- a pair more
pub pairs_more : (at : List ℕ) (e x y : ℕ) {ends more : List (ℕ × ℕ)} → e < length at / 2 → ends ≡ take e (end_pairs at)
    → x ≡ slice_index at (2 * e) → y ≡ slice_index at (2 * e + 1) → more ≡ ends ++ (x, y) ∷ []
    → more ≡ take (e + 1) (end_pairs at)
pairs_more at e x y {ends} {more} lt so_far first second is =
    let known = pair_of_edge at e (omega arith) in
    is ∙ ap₂ (λ (us : List (ℕ × ℕ)) (p : ℕ × ℕ). us ++ p ∷ []) so_far (ap₂ (λ (a b : ℕ). let p : ℕ × ℕ = (a, b) in p) first second ∙ sym (known.1 (0, 0)))
    ∙ sym (take_more (end_pairs at) e (0, 0) known.0)

-- the pairs are of vertices
pub AreWithin-end_pairs : (r : System) → IsRotation r → AreWithin r.vertices (end_pairs r.at)
AreWithin-end_pairs r is e lt =
    let p = end_pair_at r.at (slice_index_or (end_pairs r.at) e (0, 0)) e lt (get_or_default (end_pairs r.at) e (slice_index_or (end_pairs r.at) e (0, 0)) (0, 0) lt) in
    (subst (λ (x : ℕ). x < r.vertices) p.1 (is.placed (2 * e) (omega (arith, p.0))), subst (λ (x : ℕ). x < r.vertices) p.2 (is.placed (2 * e + 1) p.0))

-- what is removed is connected to nothing
pub alone : (u : ℕ) (es : List (ℕ × ℕ)) (y : ℕ) → Connected (without_vertex u es) u y → y ≡ u
alone u es y c = eqb-true y u (Connected-closed (λ x. eqb x u) (without_vertex u es) u y pair (eq-eqb u u refl) c)
  where
    pair : (e : ℕ × ℕ) → Contains (without_vertex u es) e → eqb e.0 u ≡ eqb e.1 u
    pair e h =
        let t = (kept_pair (avoids u) es e h).1 in
        ne_eqb e.0 u (avoided u e e.1 e.0 t (inr (refl, refl))) ∙ sym (ne_eqb e.1 u (avoided u e e.0 e.1 t (inl (refl, refl))))

-- the rows of no darts are empty
pub AreRows-none : (part : ℕ → ℕ) (xs : List ℕ) (parts : ℕ) (rows : List (List ℕ)) → length rows ≡ parts
    → ((i : ℕ) → slice_index_or rows i [] ≡ []) → AreRows part (take 0 xs) parts rows
AreRows-none part xs parts rows size empty = record { one_each = size; told = λ i lt. empty i }

-- a dart is put at the end of the row of its part
pub AreRows-more : (part : ℕ → ℕ) (xs : List ℕ) (parts k d : ℕ) (rows : List (List ℕ))
    → AreRows part (take k xs) parts rows → k < length xs → d ≡ slice_index xs k → part d < parts
    → AreRows part (take (k + 1) xs) parts (set rows (part d) (slice_index_or rows (part d) [] ++ d ∷ []))
AreRows-more part xs parts k d rows a lt is low = record {
  one_each = length-set rows (part d) (slice_index_or rows (part d) [] ++ d ∷ []) ∙ a.one_each;
  told = λ i lti. ⊎_elim
      (λ e. ap (λ (j : ℕ). get_or (set rows (part d) (slice_index_or rows (part d) [] ++ d ∷ [])) j []) e
      ∙ get_or-set_same rows (part d) (slice_index_or rows (part d) [] ++ d ∷ []) [] (omega (arith, a.one_each))
      ∙ ap (λ (ys : List ℕ). ys ++ d ∷ []) (a.told (part d) low) ∙ sym (grown (part d) (d ∷ []) (rw (sym is) (rw (eq-eqb (part d) (part d) refl) refl))) ∙ ap (star_row part (take (k + 1) xs)) (sym e))
      (λ ne. get_or-set_other rows (part d) i (slice_index_or rows (part d) [] ++ d ∷ []) [] ne ∙ a.told i lti ∙ sym (grown i [] (rw (sym is) (rw (ne_eqb (part d) i (λ e. ne (sym e))) refl)) ∙ append_nil (star_row part (take k xs) i)))
      (cases_eq i (part d));
}
  where
    append_nil : (ys : List ℕ) → ys ++ [] ≡ ys
    append_nil [] = refl
    append_nil (y ∷ ys) = ap (λ (zs : List ℕ). y ∷ zs) (append_nil ys)

    grown : (i : ℕ) (ys : List ℕ) → cond (eqb (part (get_or xs k 0)) i) (get_or xs k 0 ∷ []) [] ≡ ys
        → star_row part (take (k + 1) xs) i ≡ star_row part (take k xs) i ++ ys
    grown i ys e = filter_more (λ d. eqb (part d) i) xs k 0 lt ∙ ap (λ (zs : List ℕ). star_row part (take k xs) i ++ zs) e

-- what the tables tell of the parts
pub AreEntered-from : (r : System) (u : ℕ) (numbers places : List ℕ) (parts : ℕ) {entered : List ℕ} → IsRotation r
    → u < r.vertices → HasNoLoopAt r u → AreNumbered (Connected (without_vertex u (end_pairs r.at))) r.vertices numbers
    → ArePlaced (stands_at r.at u) (far_key r numbers) (length numbers) (darts r) places parts
    → entered ≡ map (slice_index places) numbers → AreEntered r u parts entered
AreEntered-from r u numbers places parts {entered} is ltu no_loop are placed made = record {
  one_each = size;
  few = (parts-le (stands_at r.at u) (far_key r numbers) (length numbers) (darts r) places parts placed);
  away = ⊎_elim (λ e. e) (λ ne. absurd (apart_from_u ne)) (cases_eq (slice_index entered u) 0);
  kept = λ x y ltx lty c. reads x ltx ∙ ap (slice_index places) (number_of_connected es r.vertices numbers are x y ltx lty c) ∙ sym (reads y lty);
  seen = λ d dart. subst (λ (k : ℕ). 0 < k) (sym (far d dart.within)) ((place-seen (stands_at r.at u) (far_key r numbers) (length numbers) (darts r) places parts placed) d dart.within (eq-eqb (vertex_of r d) u dart.stands));
  within = λ x. ⊎_elim (λ lt. omega (arith, reads x lt, (place-within (stands_at r.at u) (far_key r numbers) (length numbers) (darts r) places parts placed) (slice_index numbers x))) (λ ge. omega (arith, get_or_past entered x 0 (omega (arith, size)))) (cases_lt x r.vertices);
  same = λ d f dart_d dart_f e. connected_by_number es r.vertices numbers are (vertex_of r (twin d)) (vertex_of r (twin f)) (far_within r is d dart_d.within).1 (far_within r is f dart_f.within).1
      ((place-apart (stands_at r.at u) (far_key r numbers) (length numbers) (darts r) places parts placed) (far_key r numbers d) (far_key r numbers f) ((place-seen (stands_at r.at u) (far_key r numbers) (length numbers) (darts r) places parts placed) d dart_d.within (eq-eqb (vertex_of r d) u dart_d.stands)) (sym (far d dart_d.within) ∙ e ∙ far f dart_f.within));
  least = λ i lt. let h = (place-least (stands_at r.at u) (far_key r numbers) (length numbers) (darts r) places parts placed) i lt in
      (h.0, record { within = h.1; stands = eqb-true (vertex_of r h.0) u h.2 }, far h.0 h.1 ∙ h.3, λ f dart above. h.4 f dart.within (eq-eqb (vertex_of r f) u dart.stands) (subst (λ (k : ℕ). i < k) (far f dart.within) above));
}
  where
    es : List (ℕ × ℕ)
    es = without_vertex u (end_pairs r.at)

    size : length entered ≡ r.vertices
    size = ap length made ∙ length-map numbers (slice_index places) ∙ are.one_each

    reads : (x : ℕ) → x < r.vertices → slice_index entered x ≡ slice_index places (slice_index numbers x)
    reads x lt = ap (λ (xs : List ℕ). slice_index xs x) made ∙ get_or-map (slice_index places) numbers x 0 0 (omega (arith, are.one_each))

    far : (d : ℕ) → d < darts r → far_key r entered d ≡ slice_index places (far_key r numbers d)
    far d lt = reads (vertex_of r (twin d)) (far_within r is d lt).1

    apart_from_u : (slice_index entered u ≡ 0 → ⊥) → ⊥
    apart_from_u ne =
        let h = (place-some (stands_at r.at u) (far_key r numbers) (length numbers) (darts r) places parts placed) (slice_index numbers u) (omega (arith, reads u ltu)) in
        no_loop h.0 h.1 (eqb-true (vertex_of r h.0) u h.2) (alone u (end_pairs r.at) (vertex_of r (twin h.0)) (connected_by_number es r.vertices numbers are u (vertex_of r (twin h.0)) ltu (far_within r is h.0 h.1).1 (sym h.3)))

-- there is a part where there is a dart
pub some_part : (r : System) (u parts : ℕ) (entered : List ℕ) → IsRotation r → u < r.vertices
    → AreEntered r u parts entered → list_of r u ≢ [] → 0 < parts
some_part r u parts entered is ltu a some = by_list (list_of r u) refl
  where
    by_list : (xs : List ℕ) → xs ≡ list_of r u → 0 < parts
    by_list [] e = absurd (some (sym e))
    by_list (x ∷ xs) e =
        let d = item_stands r is u 0 ltu (subst (λ (ys : List ℕ). 0 < length ys) e (omega arith)) in
        omega (arith, a.seen (slice_index (list_of r u) 0) (record { within = d.0; stands = d.1 }), a.within (vertex_of r (twin (slice_index (list_of r u) 0))))

-- the same as a program finds them: the dart does not stand at u
pub placed_skip : (r : System) (u d v : ℕ) (numbers : List ℕ) {places moved : List ℕ} {parts more : ℕ}
    → ArePlaced (stands_at r.at u) (far_key r numbers) (length numbers) d places parts → v ≡ vertex_of r d → (v ≡ u → ⊥)
    → moved ≡ places → more ≡ parts → ArePlaced (stands_at r.at u) (far_key r numbers) (length numbers)
    (d + 1) moved more
placed_skip r u d v numbers {places} {parts} a at ne e_places e_parts =
    subst₂ (λ (xs : List ℕ) (n : ℕ). ArePlaced (stands_at r.at u) (far_key r numbers) (length numbers) (d + 1) xs n) (sym e_places) (sym e_parts)
    (ArePlaced-skip (stands_at r.at u) (far_key r numbers) (length numbers) d places parts a (ne_eqb (vertex_of r d) u (λ e. ne (at ∙ e))))

-- its part is known
pub placed_old : (r : System) (u d v far key : ℕ) (numbers : List ℕ) {places moved : List ℕ} {parts more : ℕ}
    → ArePlaced (stands_at r.at u) (far_key r numbers) (length numbers) d places parts → v ≡ vertex_of r d → v ≡ u
    → far ≡ vertex_of r (twin d) → key ≡ slice_index numbers far → key < length numbers
    → (slice_index places key ≡ 0 → ⊥) → moved ≡ places → more ≡ parts
    → ArePlaced (stands_at r.at u) (far_key r numbers) (length numbers) (d + 1) moved more
placed_old r u d v far key numbers {places} {parts} a at is far_at read low ne e_places e_parts =
    let key_is : key ≡ far_key r numbers d = read ∙ ap (slice_index numbers) far_at in
    subst₂ (λ (xs : List ℕ) (n : ℕ). ArePlaced (stands_at r.at u) (far_key r numbers) (length numbers) (d + 1) xs n) (sym e_places) (sym e_parts)
    (ArePlaced-old (stands_at r.at u) (far_key r numbers) (length numbers) d places parts a (eq-eqb (vertex_of r d) u (sym at ∙ is)) (subst (λ (k : ℕ). k < length numbers) key_is low) (subst (λ (k : ℕ). 0 < slice_index places k) key_is (omega arith)))

-- its part is a new one
pub placed_new : (r : System) (u d v far key : ℕ) (numbers : List ℕ) {places moved : List ℕ} {parts more : ℕ}
    → ArePlaced (stands_at r.at u) (far_key r numbers) (length numbers) d places parts → v ≡ vertex_of r d → v ≡ u
    → far ≡ vertex_of r (twin d) → key ≡ slice_index numbers far → key < length numbers → slice_index places key ≡ 0
    → moved ≡ set places key (parts + 1) → more ≡ parts + 1
    → ArePlaced (stands_at r.at u) (far_key r numbers) (length numbers) (d + 1) moved more
placed_new r u d v far key numbers {places} {parts} a at is far_at read low none e_places e_parts =
    let key_is : key ≡ far_key r numbers d = read ∙ ap (slice_index numbers) far_at in
    subst₂ (λ (xs : List ℕ) (n : ℕ). ArePlaced (stands_at r.at u) (far_key r numbers) (length numbers) (d + 1) xs n) (ap (λ (k : ℕ). set places k (parts + 1)) (sym key_is) ∙ sym e_places) (sym e_parts)
    (ArePlaced-new (stands_at r.at u) (far_key r numbers) (length numbers) d places parts a (eq-eqb (vertex_of r d) u (sym at ∙ is)) (subst (λ (k : ℕ). k < length numbers) key_is low) (ap (slice_index places) (sym key_is) ∙ none))

-- a dart of u is in one of the parts
pub part_within : (r : System) (u parts : ℕ) (entered : List ℕ) → AreEntered r u parts entered → (d : ℕ)
    → IsDartOf r u d → part_of r entered d < parts
part_within r u parts entered a d dart = omega (arith, a.seen d dart, a.within (vertex_of r (twin d)))

-- the rows as a program finds them
pub rows_more : (r : System) (u parts k d i : ℕ) (entered : List ℕ)
    {xs ys : List ℕ} {rows : List (List ℕ)} {row new : List ℕ} → IsRotation r → u < r.vertices
    → AreEntered r u parts entered → AreRows (part_of r entered) (take k (list_of r u)) parts rows
    → xs ≡ ys → ys ≡ list_of r u → k < length xs → d ≡ slice_index xs k → i ≡ part_of r entered d
    → row ≡ get_or rows i row → new ≡ row ++ d ∷ [] → AreRows (part_of r entered)
    (take (k + 1) (list_of r u)) parts (set rows i new)
rows_more r u parts k d i entered {xs} {ys} {rows} {row} {new} is ltu a so_far xs_is ys_is lt d_is i_is read grown =
    subst (λ (zs : List ℕ). AreRows (part_of r entered) (take (k + 1) (list_of r u)) parts (set rows i zs)) (sym (grown ∙ ap (λ (zs : List ℕ). zs ++ d ∷ []) (read ∙ here)))
    (subst (λ (j : ℕ). AreRows (part_of r entered) (take (k + 1) (list_of r u)) parts (set rows j (get_or rows j [] ++ d ∷ []))) (sym i_is)
    (AreRows-more (part_of r entered) (list_of r u) parts k d rows so_far within d_at low))
  where
    same : xs ≡ list_of r u
    same = xs_is ∙ ys_is

    within : k < length (list_of r u)
    within = subst (λ (zs : List ℕ). k < length zs) same lt

    d_at : d ≡ slice_index (list_of r u) k
    d_at = d_is ∙ ap (λ (zs : List ℕ). slice_index zs k) same

    low : part_of r entered d < parts
    low =
        let h = item_stands r is u k ltu within in
        part_within r u parts entered a d (subst (IsDartOf r u) (sym d_at) (record { within = h.0; stands = h.1 }))

    here : get_or rows i row ≡ get_or rows i []
    here = get_or_default {X = List ℕ} rows i row [] (omega (arith, so_far.one_each, low, i_is))
