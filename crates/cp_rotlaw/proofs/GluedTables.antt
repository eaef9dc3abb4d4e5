-- What the code of gluing needs of its tables.
use Rattle.std.proofs.Common.{◌≡◌, ℕ, ◌+◌, ◌-◌, ◌*◌, ◌/◌, ◌%◌, ◌<◌, ◌≤◌, ◌≢◌, eqb, List, [], ◌∷◌, ◌++◌, length, map, slice_index, sym, ap, ap₂, ◌∙◌, ⊎_elim, arith}
use Rattle.std.proofs.lemmas.Bool.{cases_eq, eq-eqb, ne_eqb, eqb-true, cond-true, cond-false}
use Rattle.cp_lists.specs.Count.{count, Exactly}
use Rattle.cp_faces.specs.Faces.{on_edges}
use Rattle.cp_lists.proofs.Counting.{count-le}
use Rattle.cp_rot.specs.Systems.{System, darts, edges, vertex_of, IsRotation}
use Rattle.cp_faces.specs.Twins.{twin}
use Rattle.cp_rot.specs.Rewrites.{values}
use Rattle.cp_faces.proofs.Twins.{twin-twin, twin-below}
use Rattle.cp_rot.proofs.ListEdits.{length-values, values_at, values_more}
use Rattle.cp_rot.specs.Tables.{system_of}
use Rattle.cp_rotlaw.specs.Glue.{ArePartners, partner_of_second, edge_avoids, first_vertex, second_vertex, second_dart, IsGlued}
use Rattle.cp_rotlaw.specs.GlueTables.{glued_list, AreNumbers}
use Rattle.cp_rotlaw.proofs.GluedDarts.{number-below, number-apart, number-other, IsGlued-tables}
use Rattle.cp_rotlaw.proofs.GluedPairs.{first_of, second_of, second_index, second_passes, second_partner}

-- the last value
pub values_last : (n : ℕ) (f : ℕ → ℕ) (i : ℕ) {xs ys : List ℕ} {x : ℕ} → i ≡ n → xs ≡ values i f → x ≡ f i
    → ys ≡ xs ++ x ∷ [] → ys ≡ values (n + 1) f
values_last n f i e xs x ys = values_more i f xs x ys ∙ ap (λ (m : ℕ). values (m + 1) f) e

module _ (a b : System) (is_a : IsRotation a) (is_b : IsRotation b) (w : ℕ) (pairs : List (ℕ × ℕ))
    (exact : Exactly (darts b) (λ d. eqb (vertex_of b d) w) (map (λ pair. pair.1) pairs)) where
  -- how many edges of b are in front of an edge and do not end at w
  abbrev rank : ℕ → ℕ
  rank e = count e (edge_avoids b w)

  -- the table of these numbers is long enough
  pub kept-length : (kept : List ℕ) → kept ≡ values (edges b + 1) rank → length kept ≡ edges b + 1
  kept-length kept e = ap (λ xs. length xs) e ∙ length-values (edges b + 1) rank

  -- and holds them
  pub kept_at : (kept : List ℕ) → kept ≡ values (edges b + 1) rank → (e : ℕ) → e < edges b + 1
      → slice_index kept e ≡ rank e
  kept_at kept same e lt = ap (λ xs. slice_index xs e) same ∙ values_at (edges b + 1) rank e 0 lt

  -- they are no greater than the number of edges
  pub kept-below : (kept : List ℕ) → kept ≡ values (edges b + 1) rank → (e : ℕ) → e < length kept
      → slice_index kept e ≤ edges b
  kept-below kept same e lt = omega (arith, kept_at kept same e (omega (arith, lt, kept-length kept same)), count-le e (edge_avoids b w), lt, kept-length kept same)

  -- the written table tells the numbers of the darts
  pub AreNumbers-written : (kept before after : List ℕ) (total : ℕ) → kept ≡ values (edges b + 1) rank
      → before ≡ values (darts b) (λ d. darts a + on_edges (slice_index kept) d) → length after ≡ length before
      → ((i : ℕ) → i < length pairs → slice_index after (twin (second_of pairs i)) ≡ first_of pairs i)
      → ((d : ℕ) → ((i : ℕ) → i < length pairs → twin (second_of pairs i) ≢ d)
      → slice_index after d ≡ slice_index before d)
      → total ≡ slice_index kept (edges b) → AreNumbers a b w pairs after total
  AreNumbers-written kept before after total kept_is before_is size written others total_is = record {
    size = sym (size ∙ ap (λ xs. length xs) before_is ∙ length-values (darts b) (λ d. darts a + on_edges (slice_index kept) d));
    kept_is = total_is ∙ kept_at kept kept_is (edges b) (omega arith);
    told = λ d lt ne. ⊎_elim
        (λ e.
        let i = second_index (darts b) (λ y. eqb (vertex_of b y) w) pairs exact (twin d) (twin-below (darts b) d is_b.paired lt) (eq-eqb (vertex_of b (twin d)) w e) in
        ap (slice_index after) (sym (twin-twin d) ∙ ap twin (sym i.2)) ∙ written i.0 i.1
        ∙ sym (second_partner (darts b) (λ y. eqb (vertex_of b y) w) pairs exact i.0 i.1) ∙ ap (partner_of_second pairs) i.2
        ∙ sym (number_joined d e))
        (λ nt.
        let half : rank (d / 2) ≡ slice_index kept (d / 2) = sym (kept_at kept kept_is (d / 2) (omega (arith, is_b.paired))) in
        others d (λ i li e. nt (ap (vertex_of b) (sym (sym (twin-twin (second_of pairs i)) ∙ ap twin e)) ∙ eqb-true (vertex_of b (second_of pairs i)) w (second_passes (darts b) (λ y. eqb (vertex_of b y) w) pairs exact i li).1))
        ∙ ap (λ xs. slice_index xs d) before_is ∙ values_at (darts b) (λ y. darts a + on_edges (slice_index kept) y) d 0 lt
        ∙ ap₂ (λ (x y : ℕ). x + (2 * y + d % 2)) is_a.paired (sym half)
        ∙ sym (number_kept d nt))
        (cases_eq (vertex_of b (twin d)) w);
  }
    where
      number_joined : (d : ℕ) → vertex_of b (twin d) ≡ w → second_dart a b w pairs d ≡ partner_of_second pairs (twin d)
      number_joined d e = cond-true (eqb (vertex_of b (twin d)) w) (partner_of_second pairs (twin d)) (2 * edges a + on_edges rank d) (eq-eqb (vertex_of b (twin d)) w e)

      number_kept : (d : ℕ) → vertex_of b (twin d) ≢ w → second_dart a b w pairs d ≡ 2 * edges a + on_edges rank d
      number_kept d nt = cond-false (eqb (vertex_of b (twin d)) w) (partner_of_second pairs (twin d)) (2 * edges a + on_edges rank d) (ne_eqb (vertex_of b (twin d)) w nt)

module _ (a b : System) (is_a : IsRotation a) (is_b : IsRotation b) (u w : ℕ) (pairs : List (ℕ × ℕ))
    (partners : ArePartners a u b w pairs) (numbers : List ℕ) (kept : ℕ)
    (told : AreNumbers a b w pairs numbers kept) where
  -- the numbers that are told are darts of the result
  pub told-below : (d : ℕ) → d < darts b → vertex_of b d ≢ w → slice_index numbers d < darts a + 2 * kept
  told-below d lt ne = omega (arith, told.told d lt ne, told.kept_is, number-below a b is_a is_b u w pairs partners d lt ne)

  -- no two are one
  pub told-apart : (d f : ℕ) → d < darts b → f < darts b → vertex_of b d ≢ w → vertex_of b f ≢ w
      → slice_index numbers d ≡ slice_index numbers f → d ≡ f
  told-apart d f ltd ltf nd nf e = number-apart a b is_a is_b u w pairs partners d f ltd ltf nd nf (sym (told.told d ltd nd) ∙ e ∙ told.told f ltf nf)

  -- not more edges are kept than there are
  pub told-kept : kept ≤ edges b
  told-kept = omega (arith, told.kept_is, count-le (edges b) (edge_avoids b w))

  -- the tables make the result
  pub glued_system : (at : List ℕ) (lists : List (List ℕ)) → u < a.vertices → w < b.vertices
      → length at ≡ darts a + 2 * kept
      → ((x : ℕ) → x < darts a → ((d : ℕ) → d < darts b → vertex_of b d ≢ w → slice_index numbers d ≢ x)
      → slice_index at x ≡ first_vertex u (vertex_of a x))
      → ((d : ℕ) → d < darts b → vertex_of b d ≢ w → slice_index at (slice_index numbers d)
      ≡ second_vertex a w (vertex_of b d))
      → lists ≡ values (a.vertices + b.vertices - 2) (glued_list a u b w (slice_index numbers))
      → IsGlued a u b w pairs (system_of at lists) × (darts (system_of at lists) ≡ 2 * edges (system_of at lists))
  glued_system at lists ltu ltw size first second lists_are = (
    IsGlued-tables a b is_a is_b u w pairs partners at numbers kept lists ltu ltw told
        (record {
          size = size ∙ ap (λ (n : ℕ). darts a + 2 * n) told.kept_is;
          first = λ x lt ne. first x lt (λ d ltd nd e. number-other a b is_a is_b u w pairs partners d x ltd nd lt ne (sym (told.told d ltd nd) ∙ e));
          second = λ d lt ne. ap (slice_index at) (sym (told.told d lt ne)) ∙ second d lt ne;
        }) lists_are,
    omega (arith, size, is_a.paired),
  )
