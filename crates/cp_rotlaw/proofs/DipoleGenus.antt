-- A dipole has genus zero exactly where its edges stand in reverse orders: its map is flat exactly there.
use Rattle.std.proofs.Common.{◌≡◌, ℕ, ◌+◌, ◌*◌, ◌/◌, ◌%◌, ◌<◌, ◌≢◌, ◌↔◌, cond, List, [], ◌∷◌, reverse, map, eqb, sym, ap, ◌∙◌, subst, subst₂, inr, ⊎_elim, arith}
use Rattle.std.proofs.lemmas.Bool.{cases_eq, cond-false, cond-true, eq-eqb, ne_eqb}
use Rattle.cp_lists.specs.CyclicLists.{Has, Lacks}
use Rattle.cp_lists.specs.Turns.{IsTurn}
use Rattle.cp_lists.proofs.DistinctLists.{has_lacks}
use Rattle.cp_lists.proofs.MappedLists.{map_undone}
use Rattle.cp_lists.proofs.ReversedLists.{map-reverse}
use Rattle.cp_lists.proofs.TurnedLists.{Has-of_turn, turn-Has, turn-map, turn-reverse, turn-sym, turn-trans, turn_reverse_head, turn_same, turn_to_item}
use Rattle.cp_faces.specs.Twins.{twin}
use Rattle.cp_faces.proofs.Twins.{half_twin, twin-below, twin-twin, twin_odd}
use Rattle.cp_maps.specs.Maps.{IsMapOf}
use Rattle.cp_maps.specs.Mirrors.{mirror}
use Rattle.cp_maps.proofs.Dipoles.{dipole-IsFlat}
use Rattle.cp_maps.proofs.GluedVertices.{maps_agree}
use Rattle.cp_maps.proofs.MapLists.{IsMapOf-swap, IsMapOf-turn}
use Rattle.cp_rot.specs.Genus.{HasGenusZero}
use Rattle.cp_rot.specs.Systems.{IsRotation, System, darts, edges, list_of, next, vertex_of}
use Rattle.cp_rot.proofs.ListSystems.{Listed, Listed-system}
use Rattle.cp_maplaw.specs.Systems.{rows_upto}
use Rattle.cp_maplaw.proofs.Systems.{IsMapOf-system, system_flat}
use Rattle.cp_rotlaw.specs.Dipoles.{AreReverse, IsDipole, edges_round}

module _ (r : System) (is : IsRotation r) (dipole : IsDipole r) where
  -- the darts and lists
  listed : Listed r.vertices (darts r) (vertex_of r) (list_of r)
  listed = Listed-system r is

  -- each dart stands at 0 or 1
  below_two : (d : ℕ) → d < darts r → vertex_of r d < 2
  below_two d lt = omega (arith, dipole.two, is.placed d lt)

  -- twins are darts
  twin_dart : (d : ℕ) → d < darts r → twin d < darts r
  twin_dart d lt = twin-below (darts r) d is.paired lt

  -- the twin of a dart at 0 stands at 1
  twin_second : (d : ℕ) → d < darts r → vertex_of r d ≡ 0 → vertex_of r (twin d) ≡ 1
  twin_second d lt e =
      let ne : vertex_of r (twin d) ≢ vertex_of r d = dipole.no_loop d lt in
      omega (arith, below_two (twin d) (twin_dart d lt), ne)

  -- the twin of a dart at 1 stands at 0
  twin_first : (d : ℕ) → d < darts r → vertex_of r d ≡ 1 → vertex_of r (twin d) ≡ 0
  twin_first d lt e =
      let ne : vertex_of r (twin d) ≢ vertex_of r d = dipole.no_loop d lt in
      omega (arith, below_two (twin d) (twin_dart d lt), ne)

  -- a dart of the list of a vertex stands there
  stand : (v d : ℕ) → v < 2 → Has d (list_of r v) → (d < darts r) × (vertex_of r d ≡ v)
  stand v d lt h = listed.item v d (omega (arith, dipole.two)) h

  -- and the other way round
  own : (v d : ℕ) → d < darts r → vertex_of r d ≡ v → Has d (list_of r v)
  own v d lt e = subst (λ w. Has d (list_of r w)) e (listed.own d lt)

  -- the twin of a dart in the list of the first vertex is in that of the second
  twin_across : (d : ℕ) → Has d (list_of r 0) → Has (twin d) (list_of r 1)
  twin_across d h =
      let s = stand 0 d (omega arith) h in own 1 (twin d) (twin_dart d s.0) (twin_second d s.0 s.1)

  -- and back
  twin_back : (d : ℕ) → Has d (list_of r 1) → Has (twin d) (list_of r 0)
  twin_back d h =
      let s = stand 1 d (omega arith) h in own 0 (twin d) (twin_dart d s.0) (twin_first d s.0 s.1)

  -- the dart of an edge at the second vertex
  at_second : ℕ → ℕ
  at_second e = cond (eqb (vertex_of r (2 * e)) 1) (2 * e) (2 * e + 1)

  -- a dart there is that of its edge
  at_second_is : (d : ℕ) → Has d (list_of r 1) → at_second (d / 2) ≡ d
  unfolding at_second
  at_second_is d h =
      let s = stand 1 d (omega arith) h in
      ⊎_elim
      (λ even.
      let first : 2 * (d / 2) ≡ d = omega arith in
      cond-true (eqb (vertex_of r (2 * (d / 2))) 1) (2 * (d / 2)) (2 * (d / 2) + 1)
      (eq-eqb (vertex_of r (2 * (d / 2))) 1 (ap (vertex_of r) first ∙ s.1)) ∙ first)
      (λ odd.
      let first : 2 * (d / 2) ≡ twin d = omega (arith, twin_odd d odd) in
      let last : 2 * (d / 2) + 1 ≡ d = omega arith in
      cond-false (eqb (vertex_of r (2 * (d / 2))) 1) (2 * (d / 2)) (2 * (d / 2) + 1)
      (ne_eqb (vertex_of r (2 * (d / 2))) 1
      (λ e. omega (arith, e, ap (vertex_of r) first, twin_first d s.0 s.1))) ∙ last)
      (cases_eq (d % 2) 0)

  -- the edges stand in reverse orders exactly where the darts of the second vertex are, up to a turn, the twins of
  -- those of the first, the last first
  reverse_darts : AreReverse r ↔ IsTurn (mirror (list_of r 0)) (list_of r 1)
  reverse_darts = (
    λ t.
        subst₂ IsTurn
        (map-reverse at_second (edges_round r 0)
        ∙ ap reverse (maps_agree (λ d. d / 2) at_second twin (list_of r 0)
        (λ d h. ap at_second (sym (half_twin d)) ∙ at_second_is (twin d) (twin_across d h))))
        (map_undone (λ d. d / 2) at_second (list_of r 1) at_second_is)
        (turn-map at_second (reverse (edges_round r 0)) (edges_round r 1) t),
    λ t.
        subst (λ es. IsTurn es (edges_round r 1))
        (map-reverse (λ d. d / 2) (map twin (list_of r 0))
        ∙ ap reverse (maps_agree twin (λ d. d / 2) (λ d. d / 2) (list_of r 0) (λ d h. half_twin d)))
        (turn-map (λ d. d / 2) (mirror (list_of r 0)) (list_of r 1) t),
  )

  -- there is a dart at the first vertex
  some : (x : ℕ) × Has x (list_of r 0)
  some =
      let zero_lt : 0 < darts r = omega (arith, is.paired, dipole.some) in
      ⊎_elim
      (λ e. (0, own 0 0 zero_lt e))
      (λ ne. (
        twin 0,
        own 0 (twin 0) (twin_dart 0 zero_lt) (twin_first 0 zero_lt (omega (arith, below_two 0 zero_lt))),
      ))
      (cases_eq (vertex_of r 0) 0)

  -- where the lists begin with a dart and its twin, the other darts have their twins in the other list
  module _ (x : ℕ) (xs ys : List ℕ) (map_of : IsMapOf (2 * edges r) (next r) ((x ∷ xs) ∷ (twin x ∷ ys) ∷ []))
      (first : IsTurn (list_of r 0) (x ∷ xs)) (second : IsTurn (list_of r 1) (twin x ∷ ys)) where
    -- from the first to the second
    there : (d : ℕ) → Has d xs → Has (twin d) ys
    there d h =
        ⊎_elim
        (λ e. absurd (has_lacks d xs h
        (subst (λ y. Lacks y xs) (sym (twin-twin x) ∙ ap twin e ∙ twin-twin d) map_of.rings.0.distinct.0)))
        (λ k. k)
        (turn-Has (list_of r 1) (twin x ∷ ys) (twin d) second
        (twin_across d (Has-of_turn (list_of r 0) (x ∷ xs) d first (inr h))))

    -- and back
    back : (d : ℕ) → Has d ys → Has (twin d) xs
    back d h =
        ⊎_elim
        (λ e. absurd (has_lacks d ys h
        (subst (λ y. Lacks y ys) (ap twin e ∙ twin-twin d) map_of.rings.1.0.distinct.0)))
        (λ k. k)
        (turn-Has (list_of r 0) (x ∷ xs) (twin d) first
        (twin_back d (Has-of_turn (list_of r 1) (twin x ∷ ys) d second (inr h))))

  -- genus zero is where the edges stand in reverse orders
  pub dipole_genus : AreReverse r ↔ HasGenusZero r
  dipole_genus = by_lists some.0 (turn_to_item some.0 (list_of r 0) some.1)
      (turn_to_item (twin some.0) (list_of r 1) (twin_across some.0 some.1))
    where
      by_lists : (x : ℕ) → ((xs : List ℕ) × IsTurn (list_of r 0) (x ∷ xs))
          → ((ys : List ℕ) × IsTurn (list_of r 1) (twin x ∷ ys)) → AreReverse r ↔ HasGenusZero r
      by_lists x first second =
          let xs : List ℕ = first.0 in
          let ys : List ℕ = second.0 in
          let n : ℕ = 2 * edges r in
          let f : ℕ → ℕ = next r in
          let both : IsMapOf n f (list_of r 1 ∷ list_of r 0 ∷ []) =
          subst (λ v. IsMapOf n f (rows_upto (list_of r) v)) dipole.two (IsMapOf-system r is) in
          let map_of : IsMapOf n f ((x ∷ xs) ∷ (twin x ∷ ys) ∷ []) =
          IsMapOf-turn n f (list_of r 0) (x ∷ xs) ((twin x ∷ ys) ∷ []) first.1
          (IsMapOf-swap n f (twin x ∷ ys) (list_of r 0) []
          (IsMapOf-turn n f (list_of r 1) (twin x ∷ ys) (list_of r 0 ∷ []) second.1 both)) in
          let law = dipole-IsFlat (edges r) f x xs ys map_of (there x xs ys map_of first.1 second.1)
          (back x xs ys map_of first.1 second.1) in
          let zero = system_flat r is in
          let turned : IsTurn (mirror (list_of r 0)) (twin x ∷ mirror xs) =
          turn-trans (mirror (list_of r 0)) (mirror (x ∷ xs)) (twin x ∷ mirror xs)
          (turn-reverse (map twin (list_of r 0)) (map twin (x ∷ xs)) (turn-map twin (list_of r 0) (x ∷ xs) first.1))
          (turn_reverse_head (twin x) (map twin xs)) in
          let last : IsTurn (twin x ∷ ys) (list_of r 1) = turn-sym (list_of r 1) (twin x ∷ ys) second.1 in (
            λ t. zero.1 (law.1 (turn_same (twin x) ys (mirror xs) map_of.rings.1.0.distinct.0
                (turn-trans (twin x ∷ ys) (list_of r 1) (twin x ∷ mirror xs) last
                (turn-trans (list_of r 1) (mirror (list_of r 0)) (twin x ∷ mirror xs)
                (turn-sym (mirror (list_of r 0)) (list_of r 1) (reverse_darts.0 t)) turned)))),
            λ z. reverse_darts.1 (turn-trans (mirror (list_of r 0)) (twin x ∷ mirror xs) (list_of r 1) turned
                (subst (λ zs. IsTurn (twin x ∷ zs) (list_of r 1)) (law.0 (zero.0 z)) last)),
          )
