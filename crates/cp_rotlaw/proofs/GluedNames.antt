-- The names that the darts of a glued system have among those of the two systems side by side.
use Rattle.std.proofs.Common.{◌≡◌, ℕ, ◌+◌, ◌-◌, ◌*◌, ◌/◌, ◌%◌, ◌<◌, true, cond, ltb, sym, ap, ap₂, ◌∙◌, subst, ⊎_elim, arith}
use Rattle.std.proofs.lemmas.Bool.{cases_eq, cases_lt, cond-true, cond-false, lt-ltb, le-ltb}
use Rattle.cp_lists.specs.Count.{count}
use Rattle.cp_faces.specs.Faces.{on_edges}
use Rattle.cp_faces.specs.Twins.{twin}
use Rattle.cp_faces.proofs.Twins.{half_twin, twin-below, twin_even, twin_odd}
use Rattle.cp_maps.specs.Names.{Names}
use Rattle.cp_maps.proofs.Mirrors.{twin-farther}
use Rattle.cp_rot.specs.Systems.{System, edges}
use Rattle.cp_rotlaw.specs.Glue.{edge_avoids}
use Rattle.cp_rotlaw.proofs.GluedPairs.{count_before, count_before-apart, passing, passing-is}

-- new numbers of edges keep twins
on_edges-twin : (p : ℕ → ℕ) (d : ℕ) → on_edges p (twin d) ≡ twin (on_edges p d)
on_edges-twin p d = ⊎_elim
    (λ even.
    let bit : twin d % 2 ≡ 1 = omega (arith, twin_even d even) in
    ap₂ (λ (x y : ℕ). 2 * p x + y) (half_twin d) bit
    ∙ omega (arith, twin_even (2 * p (d / 2) + d % 2) (omega (arith, even)), even))
    (λ odd.
    let bit : twin d % 2 ≡ 0 = omega (arith, twin_odd d odd) in
    ap₂ (λ (x y : ℕ). 2 * p x + y) (half_twin d) bit
    ∙ omega (arith, twin_odd (2 * p (d / 2) + d % 2) (λ e. omega (arith, odd, e)), odd))
    (cases_eq (d % 2) 0)

module _ (a b : System) (w : ℕ) where
  -- the darts of b come behind those of a
  abbrev n : ℕ
  n = 2 * edges a

  -- all edges
  abbrev all : ℕ
  all = edges a + edges b

  -- the edge of b that is number k of those that do not end at w
  abbrev pub pass : ℕ → ℕ
  pass = passing (edges b) (edge_avoids b w)

  -- of the number of such an edge
  pub pass-rank : (e : ℕ) → e < edges b → edge_avoids b w e ≡ true → pass (count e (edge_avoids b w)) ≡ e
  pass-rank e lt t =
      let k = passing-is (edges b) (edge_avoids b w) (count e (edge_avoids b w))
      (count_before (edge_avoids b w) e (edges b) lt t) in
      count_before-apart (edge_avoids b w) (pass (count e (edge_avoids b w))) e k.1 t k.2

  -- the name of a dart of the result
  pub glued_name : ℕ → ℕ
  glued_name d = cond (ltb d n) d (n + on_edges pass (d - n))

  -- of a
  pub glued_name_low : (d : ℕ) → d < n → glued_name d ≡ d
  unfolding glued_name
  glued_name_low d lt = cond-true (ltb d n) d (n + on_edges pass (d - n)) (lt-ltb d n lt)

  -- of b
  pub glued_name_high : (d : ℕ) → glued_name (n + d) ≡ n + on_edges pass d
  unfolding glued_name
  glued_name_high d =
      let off : n + d - n ≡ d = omega arith in
      cond-false (ltb (n + d) n) (n + d) (n + on_edges pass (n + d - n)) (le-ltb (n + d) n (omega arith))
      ∙ ap (λ (y : ℕ). n + on_edges pass y) off

  -- how many edges of b stay
  abbrev stay : ℕ
  stay = count (edges b) (edge_avoids b w)

  -- the names are different, and those of twins are twins
  pub Names-glued : (m : ℕ) → m ≡ edges a + stay → Names m all glued_name
  Names-glued m size = record {
    below = λ d lt. each (λ y. glued_name y < 2 * all) (λ y l. omega (arith, glued_name_low y l))
        (λ k l. omega (arith, glued_name_high k, (is_pass k l).0)) d lt;
    apart = λ c d ltc ltd. each (λ x. glued_name x ≡ glued_name d → x ≡ d)
        (λ x lx. each (λ y. glued_name x ≡ glued_name y → x ≡ y)
        (λ y ly e. sym (glued_name_low x lx) ∙ e ∙ glued_name_low y ly)
        (λ k lk e. absurd (omega (arith, glued_name_low x lx, glued_name_high k, e, lx))) d ltd)
        (λ k lk. each (λ y. glued_name (n + k) ≡ glued_name y → n + k ≡ y)
        (λ y ly e. absurd (omega (arith, glued_name_low y ly, glued_name_high k, e, ly)))
        (λ l ll e.
        let half : pass (k / 2) ≡ pass (l / 2) = omega (arith, glued_name_high k, glued_name_high l, e) in
        let same : k / 2 ≡ l / 2 =
        sym (is_pass k lk).2 ∙ ap (λ z. count z (edge_avoids b w)) half ∙ (is_pass l ll).2 in
        omega (arith, glued_name_high k, glued_name_high l, e, half, same))
        d ltd)
        c ltc;
    twins = λ d lt. each (λ y. glued_name (twin y) ≡ twin (glued_name y))
        (λ y l. glued_name_low (twin y) (twin-below n y (omega arith) l) ∙ ap twin (sym (glued_name_low y l)))
        (λ k l. ap glued_name (twin-farther (edges a) k) ∙ glued_name_high (twin k)
        ∙ ap (λ (z : ℕ). n + z) (on_edges-twin pass k)
        ∙ sym (twin-farther (edges a) (on_edges pass k)) ∙ ap twin (sym (glued_name_high k)))
        d lt;
  }
    where
      each : (P : ℕ → Type 0) → ((d : ℕ) → d < n → P d) → ((k : ℕ) → k < 2 * stay → P (n + k)) → (d : ℕ) → d < 2 * m
          → P d
      each P one two d lt =
          ⊎_elim (one d)
          (λ q. let whole : n + (d - n) ≡ d = omega arith in subst P whole (two (d - n) (omega (arith, size))))
          (cases_lt d n)

      is_pass : (k : ℕ) → k < 2 * stay → (pass (k / 2) < edges b) × (edge_avoids b w (pass (k / 2)) ≡ true)
          × (count (pass (k / 2)) (edge_avoids b w) ≡ k / 2)
      is_pass k lt = passing-is (edges b) (edge_avoids b w) (k / 2) (omega arith)
