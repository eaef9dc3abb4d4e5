-- The darts of the edges of a graph with names tell their edges and the ends at which they stand.
use Rattle.std.proofs.Common.{◌≡◌, ◌≢◌, ℕ, ◌+◌, ◌*◌, ◌/◌, ◌%◌, cond, eqb, slice_index, ap, ◌∙◌, ⊎_elim, arith}
use Rattle.std.specs.List.{Contains}
use Rattle.std.proofs.lemmas.Bool.{cases_eq, cond-false, cond-true, eq-eqb, eqb-true, ne_eqb, or_cases}
use Rattle.cp_conn.specs.NamedGraphs.{NamedGraph, edges_at, rank}
use Rattle.cp_conn.proofs.NamedGraphs.{edges_at-Contains, rank_at}
use Rattle.cp_board.specs.Rotations.{dart}

-- a graph with names, in which no edge is a loop
module _ (g : NamedGraph) (differ : (e : ℕ) → Contains g.edges e → (g.ends e).0 ≢ (g.ends e).1) where
  -- the dart of an edge at its first end
  first_dart : (w e : ℕ) → (g.ends e).0 ≡ w → dart g w e ≡ 2 * rank g.edges e
  first_dart w e a =
      let bit = cond-true {A = ℕ} (eqb (g.ends e).0 w) 0 1 (eq-eqb (g.ends e).0 w a) in omega (arith, bit)

  -- and at its second
  second_dart : (w e : ℕ) → (g.ends e).0 ≢ w → dart g w e ≡ 2 * rank g.edges e + 1
  second_dart w e a =
      let bit = cond-false {A = ℕ} (eqb (g.ends e).0 w) 0 1 (ne_eqb (g.ends e).0 w a) in omega (arith, bit)

  -- half of it is the place of the edge
  pub dart_half : (w e : ℕ) → dart g w e / 2 ≡ rank g.edges e
  dart_half w e = ⊎_elim
      (λ a. let d = first_dart w e a in omega (arith, d))
      (λ a. let d = second_dart w e a in omega (arith, d))
      (cases_eq (g.ends e).0 w)

  -- the edge of a dart
  abbrev named_edge : ℕ → ℕ
  named_edge d = slice_index g.edges (d / 2)

  -- the end at which it stands: the first of the edge for an even dart, the second for an odd one
  abbrev named_end : ℕ → ℕ
  named_end d = cond (eqb (d % 2) 0) (g.ends (named_edge d)).0 (g.ends (named_edge d)).1

  -- the edge is told by the dart
  dart_named : (w e : ℕ) → Contains (edges_at g w) e → named_edge (dart g w e) ≡ e
  dart_named w e c = ap (slice_index g.edges) (dart_half w e) ∙ (rank_at g.edges e (edges_at-Contains g w e c).0).1

  -- and so is the end
  pub dart_placed : (w e : ℕ) → Contains (edges_at g w) e → named_end (dart g w e) ≡ w
  dart_placed w e c = ⊎_elim
      (λ a. let d = first_dart w e a in let even : dart g w e % 2 ≡ 0 = omega (arith, d) in
      cond-true {A = ℕ} (eqb (dart g w e % 2) 0) (g.ends (named_edge (dart g w e))).0
      (g.ends (named_edge (dart g w e))).1 (eq-eqb (dart g w e % 2) 0 even)
      ∙ ap (λ f. (g.ends f).0) (dart_named w e c) ∙ a)
      (λ a. let d = second_dart w e a in
      let odd : dart g w e % 2 ≢ 0 = λ z. omega (arith, d, z) in
      cond-false {A = ℕ} (eqb (dart g w e % 2) 0) (g.ends (named_edge (dart g w e))).0
      (g.ends (named_edge (dart g w e))).1 (ne_eqb (dart g w e % 2) 0 odd)
      ∙ ap (λ f. (g.ends f).1) (dart_named w e c)
      ∙ ⊎_elim (λ h. absurd (a (eqb-true (g.ends e).0 w h))) (λ h. eqb-true (g.ends e).1 w h)
      (or_cases (eqb (g.ends e).0 w) (eqb (g.ends e).1 w) (edges_at-Contains g w e c).1))
      (cases_eq (g.ends e).0 w)
