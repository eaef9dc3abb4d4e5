-- An edge left out of a rotation system.
use Rattle.std.proofs.Common.{◌≡◌, ℕ, suc, ◌+◌, ◌-◌, ◌*◌, ◌/◌, ◌%◌, ◌<◌, ◌↔◌, map, sym, refl, ap, ap₂, ◌∙◌, subst, arith}
use Rattle.cp_orbits.specs.Orbits.{exchange}
use Rattle.cp_lists.specs.CyclicLists.{but, follow}
use Rattle.cp_faces.specs.Faces.{Turns, faces, components, drop_edge, on_edges, renamed_at, renamed_next}
use Rattle.cp_orbits.proofs.OrbitLaws.{exchange_left, exchange-below, exchange-exchange}
use Rattle.cp_faces.proofs.Renaming.{on_edges_even, on_edges_odd}
use Rattle.cp_faces.proofs.Insertions.{drop_edge-agree}
use Rattle.cp_faces.proofs.Rewrites.{deleted-zero}
use Rattle.cp_rot.specs.Systems.{System, edges, vertex_of, list_of, next, IsRotation}
use Rattle.cp_rot.specs.Genus.{HasGenusZero}
use Rattle.cp_rot.specs.Rewrites.{renumbered, without_edge, deleted}
use Rattle.cp_rot.proofs.Functions.{next-follow, Turns-system, zero_counts}
use Rattle.cp_rot.proofs.ListEdits.{Twice, but-map, without_edge-but}
use Rattle.cp_rot.proofs.ListSystems.{Listed, turn, Listed-edges, Listed-agree, system_at, system-edges, system_next, IsRotation-system, HasGenusZero_by, Listed-darts, turn-darts, Listed-drop_edge, turn-drop_edge}

-- darts on edges whose numbers are exchanged twice are as before
pub on_edges-twice : (p : ℕ → ℕ) → Twice p → Twice (on_edges p)
on_edges-twice p twice d =
    let half : on_edges p d / 2 ≡ p (d / 2) = omega arith in
    let bit : on_edges p d % 2 ≡ d % 2 = omega arith in
    ap₂ (λ (a b : ℕ). 2 * p a + b) half bit ∙ omega (arith, twice (d / 2))

-- the numbers stay below the number of darts
pub on_edges-below : (n : ℕ) (p : ℕ → ℕ) → ((x : ℕ) → x < n → p x < n) → (d : ℕ) → d < 2 * n → on_edges p d < 2 * n
on_edges-below n p below d lt = omega (arith, below (d / 2) (omega arith))

-- an edge of a rotation system
module _ (r : System) (is : IsRotation r) (e : ℕ) (lt : e < edges r) where
  -- the number of edges that are left
  abbrev pub left : ℕ
  left = edges r - 1

  -- one is left out
  one_more : edges r ≡ suc left
  one_more = omega arith

  -- the functions of the system
  whole : Listed r.vertices (2 * suc left) (vertex_of r) (list_of r)
  whole = Listed-edges r (suc left) is one_more

  -- they are a rotation
  pub whole_turns : Turns r.vertices (suc left) (vertex_of r) (next r)
  whole_turns = subst (λ n. Turns r.vertices n (vertex_of r) (next r)) one_more (Turns-system r is)

  -- exchanging twice changes nothing
  twice : Twice (renumbered r e)
  twice = on_edges-twice (exchange e left) (exchange-exchange e left)

  -- the numbers stay below the number of darts
  below : (d : ℕ) → d < 2 * suc left → renumbered r e d < 2 * suc left
  below = on_edges-below (suc left) (exchange e left) (λ x l. exchange-below (suc left) e left x (omega arith) (omega arith) l)

  -- with the last numbers for the edge
  moved : Listed r.vertices (2 * suc left) (λ d. vertex_of r (renumbered r e d))
      (λ v. map (renumbered r e) (list_of r v))
  moved = Listed-darts r.vertices (2 * suc left) (vertex_of r) (list_of r) whole (renumbered r e) twice below

  -- leaving out the edge is leaving out the last one
  same_list : (v : ℕ) → but (2 * left) (but (2 * left + 1) (map (renumbered r e) (list_of r v))) ≡ map (renumbered r e)
      (without_edge e (list_of r v))
  same_list v = sym (
      ap (map (renumbered r e)) (without_edge-but e (list_of r v))
      ∙ but-map (renumbered r e) twice (2 * e) (but (2 * e + 1) (list_of r v))
      ∙ ap (but (renumbered r e (2 * e))) (but-map (renumbered r e) twice (2 * e + 1) (list_of r v))
      ∙ ap₂ (λ a b. but a (but b (map (renumbered r e) (list_of r v))))
      (on_edges_even (exchange e left) e ∙ ap (λ (x : ℕ). 2 * x) (exchange_left e left e refl))
      (on_edges_odd (exchange e left) e ∙ ap (λ (x : ℕ). 2 * x + 1) (exchange_left e left e refl)))

  -- the functions of the result
  pub Listed-deleted : Listed r.vertices (2 * left) (λ d. vertex_of r (renumbered r e d))
      (λ v. map (renumbered r e) (without_edge e (list_of r v)))
  Listed-deleted = Listed-agree r.vertices (2 * left) (λ d. vertex_of r (renumbered r e d)) (λ d. vertex_of r (renumbered r e d)) (λ v. but (2 * left) (but (2 * left + 1) (map (renumbered r e) (list_of r v)))) (λ v. map (renumbered r e) (without_edge e (list_of r v))) (λ d l. refl) (λ v l. same_list v)
      (Listed-drop_edge r.vertices left (λ d. vertex_of r (renumbered r e d)) (λ v. map (renumbered r e) (list_of r v)) moved)

  -- the result is a rotation system
  pub IsRotation-deleted : IsRotation (deleted r e)
  IsRotation-deleted = IsRotation-system r.vertices left (λ d. vertex_of r (renumbered r e d)) (λ v. map (renumbered r e) (without_edge e (list_of r v))) Listed-deleted

  -- where its darts stand
  pub deleted_at : (d : ℕ) → d < 2 * left → vertex_of (deleted r e) d ≡ vertex_of r (renumbered r e d)
  deleted_at d l = system_at r.vertices left (λ y. vertex_of r (renumbered r e y)) (λ v. map (renumbered r e) (without_edge e (list_of r v))) d l

  -- how many edges it has
  pub deleted-edges : edges (deleted r e) ≡ left
  deleted-edges = system-edges r.vertices left (λ y. vertex_of r (renumbered r e y)) (λ v. map (renumbered r e) (without_edge e (list_of r v)))

  -- what is behind its darts
  pub deleted_next : (d : ℕ) → d < 2 * left
      → next (deleted r e) d ≡ drop_edge left (renamed_next (exchange e left) (exchange e left) (next r)) d
  deleted_next d l =
      system_next r.vertices left (λ y. vertex_of r (renumbered r e y)) (λ v. map (renumbered r e) (without_edge e (list_of r v))) Listed-deleted d l
      ∙ ap (λ xs. follow xs d) (sym (same_list (vertex_of r (renumbered r e d))))
      ∙ turn-drop_edge r.vertices left (λ y. vertex_of r (renumbered r e y)) (λ v. map (renumbered r e) (list_of r v)) moved d l
      ∙ drop_edge-agree left (turn (λ y. vertex_of r (renumbered r e y)) (λ v. map (renumbered r e) (list_of r v))) (renamed_next (exchange e left) (exchange e left) (next r))
      (λ y ly. turn-darts r.vertices (2 * suc left) (vertex_of r) (list_of r) whole (renumbered r e) twice below y ly ∙ ap (renumbered r e) (sym (next-follow r is (renumbered r e y) (omega (arith, below y ly, is.paired)))))
      d (omega arith)

  -- its genus is zero where the functions say so
  pub deleted_zero_by : HasGenusZero (deleted r e)
      ↔ (r.vertices + faces r.vertices left (renamed_at (λ x. x) (exchange e left) (vertex_of r))
      (drop_edge left (renamed_next (exchange e left) (exchange e left) (next r)))
      ≡ left + 2 * components r.vertices left (renamed_at (λ x. x) (exchange e left) (vertex_of r)))
  deleted_zero_by = HasGenusZero_by (deleted r e) r.vertices left (renamed_at (λ x. x) (exchange e left) (vertex_of r)) (drop_edge left (renamed_next (exchange e left) (exchange e left) (next r))) IsRotation-deleted refl deleted-edges deleted_at deleted_next

  -- genus zero stays
  pub deleted-HasGenusZero : HasGenusZero r → HasGenusZero (deleted r e)
  deleted-HasGenusZero z = deleted_zero_by.1 (deleted-zero r.vertices left e (vertex_of r) (next r) whole_turns (omega arith)
      (subst (λ n. r.vertices + faces r.vertices n (vertex_of r) (next r) ≡ n + 2 * components r.vertices n (vertex_of r)) one_more (zero_counts r is z)))
