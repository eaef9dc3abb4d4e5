-- Rotation systems as maps: a system has genus zero exactly where its map is flat.
use Rattle.std.proofs.Common.{◌≡◌, ℕ, ◌<◌, List, ap, ◌∙◌, subst, ⊎_elim, suc, ◌*◌, ◌≤◌, arith, zero, map, ◌↔◌}
use Rattle.std.proofs.lemmas.Bool.{cases_eq}
use Rattle.cp_lists.specs.CyclicLists.{Distinct, Has, follow}
use Rattle.cp_lists.specs.Rows.{flat}
use Rattle.cp_lists.proofs.DistinctLists.{Distinct-append, Has-append_cases, Has-append_left, Has-append_right, Lacks-from, has_lacks}
use Rattle.cp_rot.specs.Genus.{HasGenusZero}
use Rattle.cp_rot.specs.Systems.{IsRotation, System, darts, edges, list_of, next, vertex_of}
use Rattle.cp_rot.proofs.Functions.{HasGenusZero-from, Turns-system, next-follow, zero_counts}
use Rattle.cp_rot.proofs.ListSystems.{Listed, Listed-system}
use Rattle.cp_maps.specs.Genus.{IsFlat, OneGenus}
use Rattle.cp_maps.specs.Maps.{IsMapOf, Rings}
use Rattle.cp_maps.specs.Names.{Names}
use Rattle.cp_maps.proofs.FlatRotations.{flat_from_zero, zero_from_flat}
use Rattle.cp_maps.proofs.Genus.{OneGenus-IsFlat, OneGenus-sym}
use Rattle.cp_maps.proofs.ListFacts.{Below-from}
use Rattle.cp_maps.proofs.Names.{named_lists-OneGenus}
use Rattle.cp_maplaw.specs.Systems.{rows_of, rows_upto}

-- darts at vertices with lists
module _ (v n : ℕ) (at : ℕ → ℕ) (lists : ℕ → List ℕ) (l : Listed v n at lists) (f : ℕ → ℕ) (behind : (d : ℕ) → d < n
    → f d ≡ follow (lists (at d)) d) where
  -- an item of the lists of some vertices stands there
  item_upto : (w : ℕ) → w ≤ v → (d : ℕ) → Has d (flat (rows_upto lists w)) → (d < n) × (at d < w)
  item_upto zero le d h = absurd h
  item_upto (suc w) le d h = ⊎_elim
      (λ k. let i = l.item w d (omega arith) k in (i.0, omega (arith, i.1)))
      (λ k. let i = item_upto w (omega arith) d k in (i.0, omega (arith, i.1)))
      (Has-append_cases d (lists w) (flat (rows_upto lists w)) h)

  -- and the other way round
  own_upto : (w : ℕ) → w ≤ v → (d : ℕ) → d < n → at d < w → Has d (flat (rows_upto lists w))
  own_upto zero le d lt lw = absurd (omega arith)
  own_upto (suc w) le d lt lw = ⊎_elim
      (λ e. Has-append_left d (lists w) (flat (rows_upto lists w)) (subst (λ x. Has d (lists x)) e (l.own d lt)))
      (λ ne. Has-append_right d (lists w) (flat (rows_upto lists w)) (own_upto w (omega arith) d lt (omega arith)))
      (cases_eq (at d) w)

  -- no dart stands twice
  once_upto : (w : ℕ) → w ≤ v → Distinct (flat (rows_upto lists w))
  once_upto zero le = tt
  once_upto (suc w) le =
      Distinct-append (lists w) (flat (rows_upto lists w)) (l.distinct w (omega arith)) (once_upto w (omega arith))
      (λ d h. Lacks-from d (flat (rows_upto lists w)) (λ k. let i = l.item w d (omega arith) h in
      let j = item_upto w (omega arith) d k in omega (arith, i.1, j.1)))

  -- the lists are rings
  rings_upto : (w : ℕ) → w ≤ v → Rings f (rows_upto lists w)
  rings_upto zero le = tt
  rings_upto (suc w) le = (
    record {
      distinct = l.distinct w (omega arith);
      along = λ d h. let i = l.item w d (omega arith) h in
          behind d i.0 ∙ ap (λ x. follow (lists x) d) i.1;
    },
    rings_upto w (omega arith),
  )

  -- the function that leads each dart to the next in the list of its vertex is the map of the lists
  pub IsMapOf-Listed : IsMapOf n f (rows_upto lists v)
  IsMapOf-Listed = record {
    once = once_upto v (omega arith);
    below = Below-from n (flat (rows_upto lists v)) (λ d h. (item_upto v (omega arith) d h).0);
    rings = rings_upto v (omega arith);
    loose =
        λ d lt lacks. absurd (has_lacks d (flat (rows_upto lists v))
        (own_upto v (omega arith) d lt (l.placed d lt)) lacks);
  }

-- the map of a rotation system has the lists of its vertices
pub IsMapOf-system : (r : System) → IsRotation r → IsMapOf (2 * edges r) (next r) (rows_of r)
IsMapOf-system r is =
    subst (λ n. IsMapOf n (next r) (rows_of r)) is.paired
    (IsMapOf-Listed r.vertices (darts r) (vertex_of r) (list_of r) (Listed-system r is) (next r) (next-follow r is))

-- a system has genus zero where its map is flat
pub system_flat : (r : System) → IsRotation r → HasGenusZero r ↔ IsFlat (edges r) (next r)
system_flat r is = (
  λ z. flat_from_zero r.vertices (edges r) (vertex_of r) (next r) (Turns-system r is) (zero_counts r is z),
  λ z. HasGenusZero-from r is (zero_from_flat r.vertices (edges r) (vertex_of r) (next r) (Turns-system r is) z),
)

-- a system has genus zero where its lists, under whatever names, are those of a flat map
pub system_names : (r : System) (e : ℕ) (j g : ℕ → ℕ) → IsRotation r → edges r ≤ e → Names (edges r) e j
    → IsMapOf (2 * e) g (map (map j) (rows_of r)) → HasGenusZero r ↔ IsFlat e g
system_names r e j g is le names is_g =
    let one : OneGenus (edges r) (next r) e g =
    named_lists-OneGenus (edges r) e j (next r) g (rows_of r) le names (IsMapOf-system r is) is_g in (
      λ z. OneGenus-IsFlat (edges r) (next r) e g one ((system_flat r is).0 z),
      λ z. (system_flat r is).1 (OneGenus-IsFlat e g (edges r) (next r) (OneGenus-sym (edges r) (next r) e g one) z),
    )
