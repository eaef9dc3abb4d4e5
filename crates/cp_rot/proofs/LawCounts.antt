-- Counts of rotation systems with new numbers, side by side, and with a loop whose darts are neighbours.
use Rattle.std.proofs.Common.{◌≡◌, ℕ, suc, ◌+◌, ◌-◌, ◌*◌, ◌/◌, ◌<◌, ◌⊎◌, sym, refl, ap, ap₂, ◌∙◌, subst, ⊎_elim, arith}
use Rattle.cp_orbits.specs.Classes.{labels, graph}
use Rattle.cp_orbits.specs.Orbits.{exchange, Renumbers}
use Rattle.cp_faces.specs.Faces.{Turns, face_upto, faces, components, drop_edge, Renames, on_edges, renamed_at, renamed_next}
use Rattle.cp_orbits.proofs.OrbitLaws.{exchange_left, exchange_right, label_step}
use Rattle.cp_orbits.proofs.Exchanges.{Renumbers-exchange}
use Rattle.cp_faces.proofs.ListRotations.{Rotates-agree}
use Rattle.cp_faces.proofs.Faces.{face_upto-past, insert-faces, faces_upto-agree, components-agree}
use Rattle.cp_faces.proofs.Merges.{partner-twin}
use Rattle.cp_faces.proofs.Renaming.{Renames-edges, Renames-Turns, faces-renamed, components-renamed, on_edges_even, on_edges_odd}
use Rattle.cp_faces.proofs.Parts.{faces-beside, components-beside}
use Rattle.cp_rot.specs.Systems.{System, darts, edges, vertex_of, next, IsRotation}
use Rattle.cp_rot.specs.Genus.{FaceCount, ComponentCount}
use Rattle.cp_rot.specs.Rewrites.{deleted}
use Rattle.cp_rot.specs.Laws.{IsRenamed, IsSideBySide}
use Rattle.cp_rot.proofs.Euler.{FaceCount-unique, ComponentCount-unique}
use Rattle.cp_rot.proofs.Functions.{Turns-system, faces_of, components_of, FaceCount-faces, ComponentCount-components}
use Rattle.cp_rot.proofs.DeletedEdges.{whole_turns, IsRotation-deleted, deleted-edges, deleted_at, deleted_next}

-- a number of faces is that of the functions
pub faces_are : (r : System) → IsRotation r → (f : ℕ) → FaceCount r f → f ≡ faces_of r
faces_are r is f count = FaceCount-unique r f (faces_of r) count (FaceCount-faces r is)

-- a number of components is that of the functions
pub components_are : (r : System) → IsRotation r → (c : ℕ) → ComponentCount r c → c ≡ components_of r
components_are r is c count = ComponentCount-unique r c (components_of r) count (ComponentCount-components r is)

-- a system with new numbers
module _ (r s : System) (h back k undo : ℕ → ℕ) (is : IsRotation r) (is' : IsRotation s)
    (ren : IsRenamed r s h back k undo) where
  -- is one by its functions
  renames : Renames r.vertices (edges r) h back k undo (vertex_of r) (next r) (vertex_of s) (next s)
  renames = record {
    vertices = ren.vertex_numbers;
    darts = subst (λ n. Renumbers n k undo) is.paired ren.dart_numbers;
    pairs = λ d lt.
        let old : d < darts r = omega (arith, is.paired) in
        partner-twin (edges r) (k d) (omega (arith, ren.dart_numbers.there d old, is.paired)) ∙ ren.twins d old ∙ ap k (sym (partner-twin (edges r) d lt));
    stand = λ d lt. ren.stand d (omega (arith, is.paired));
    follow = λ d lt. ren.follow d (omega (arith, is.paired));
  }

  -- it has as many edges
  same_edges : edges s ≡ edges r
  same_edges = ap (λ (n : ℕ). n / 2) ren.size

  -- it has as many faces and components
  pub renamed_counts : (f c g b : ℕ) → FaceCount r f → ComponentCount r c → FaceCount s g → ComponentCount s b
      → (g ≡ f) × (b ≡ c)
  renamed_counts f c g b faces_r components_r faces_s components_s = (
    faces_are s is' g faces_s ∙ ap₂ (λ v e. faces v e (vertex_of s) (next s)) ren.vertices same_edges
        ∙ faces-renamed r.vertices (edges r) h back k undo (vertex_of r) (next r) (vertex_of s) (next s) (Turns-system r is) renames ∙ sym (faces_are r is f faces_r),
    components_are s is' b components_s ∙ ap₂ (λ v e. components v e (vertex_of s)) ren.vertices same_edges
        ∙ components-renamed r.vertices (edges r) h back k undo (vertex_of r) (next r) (vertex_of s) (next s) (Turns-system r is) renames ∙ sym (components_are r is c components_r),
  )

-- two systems side by side
module _ (r s t : System) (is_r : IsRotation r) (is_s : IsRotation s) (is_t : IsRotation t)
    (both : IsSideBySide r s t) where
  -- the edges add up
  edges_add : edges t ≡ edges r + edges s
  edges_add = omega (arith, both.size, is_r.paired, is_s.paired, is_t.paired)

  -- the first darts make the first system
  first : Turns r.vertices (edges r) (vertex_of t) (next t)
  first = Rotates-agree r.vertices (2 * edges r) (vertex_of r) (next r) (vertex_of t) (next t) (λ d lt. sym (both.stand_first d (omega (arith, is_r.paired)))) (λ d lt. sym (both.follow_first d (omega (arith, is_r.paired)))) (Turns-system r is_r)

  -- the others stand where those of the second do
  stand : (d : ℕ) → d < 2 * edges s → vertex_of t (2 * edges r + d) ≡ r.vertices + vertex_of s d
  stand d lt = ap (λ n. vertex_of t (n + d)) (sym is_r.paired) ∙ both.stand_second d (omega (arith, is_s.paired))

  -- and are followed by what follows there
  follows : (d : ℕ) → d < 2 * edges s → next t (2 * edges r + d) ≡ 2 * edges r + next s d
  follows d lt = ap (λ n. next t (n + d)) (sym is_r.paired) ∙ both.follow_second d (omega (arith, is_s.paired)) ∙ ap (λ n. n + next s d) is_r.paired

  -- the numbers of faces and components add up
  pub side_by_side_counts : (f c g b h a : ℕ) → FaceCount r f → ComponentCount r c → FaceCount s g → ComponentCount s b
      → FaceCount t h → ComponentCount t a → (h ≡ f + g) × (a ≡ c + b)
  side_by_side_counts f c g b h a faces_r components_r faces_s components_s faces_t components_t = (
    faces_are t is_t h faces_t ∙ ap₂ (λ v e. faces v e (vertex_of t) (next t)) both.vertices edges_add
        ∙ faces-beside r.vertices (edges r) s.vertices (edges s) (vertex_of t) (next t) (vertex_of s) (next s) first (Turns-system s is_s) stand follows
        ∙ ap₂ (λ p q. p + q)
        (sym (faces_upto-agree r.vertices (2 * edges r) (edges r) (vertex_of r) (next r) (vertex_of t) (next t) (λ d lt. sym (both.stand_first d (omega (arith, is_r.paired)))) (λ d lt. sym (both.follow_first d (omega (arith, is_r.paired)))) (omega arith)) ∙ sym (faces_are r is_r f faces_r))
        (sym (faces_are s is_s g faces_s)),
    components_are t is_t a components_t ∙ ap₂ (λ v e. components v e (vertex_of t)) both.vertices edges_add
        ∙ components-beside r.vertices (edges r) s.vertices (edges s) (vertex_of t) (next t) (vertex_of s) (next s) first (Turns-system s is_s) stand follows
        ∙ ap₂ (λ p q. p + q)
        (sym (components-agree r.vertices (edges r) (vertex_of r) (vertex_of t) (λ d lt. sym (both.stand_first d (omega (arith, is_r.paired))))) ∙ sym (components_are r is_r c components_r))
        (sym (components_are s is_s b components_s)),
  )

-- an edge whose two darts stand side by side
module _ (r : System) (is : IsRotation r) (e : ℕ) (lt : e < edges r)
    (side : (next r (2 * e) ≡ 2 * e + 1) ⊎ (next r (2 * e + 1) ≡ 2 * e)) where
  -- the number of the others
  abbrev m : ℕ
  m = edges r - 1

  -- where the darts stand, with the last number for the edge
  abbrev at : ℕ → ℕ
  at = renamed_at (λ x. x) (exchange e m) (vertex_of r)

  -- what is behind them
  abbrev behind : ℕ → ℕ
  behind = renamed_next (exchange e m) (exchange e m) (next r)

  -- the numbers are new numbers
  numbers : Renames r.vertices (suc m) (λ x. x) (λ x. x) (on_edges (exchange e m)) (on_edges (exchange e m))
      (vertex_of r) (next r) at behind
  numbers = Renames-edges r.vertices (suc m) (exchange e m) (exchange e m) (vertex_of r) (next r) (whole_turns r is e lt) (Renumbers-exchange (suc m) e m (omega arith) (omega arith))

  -- it is a rotation
  turns : Turns r.vertices (suc m) at behind
  turns = Renames-Turns r.vertices (suc m) (λ x. x) (λ x. x) (on_edges (exchange e m)) (on_edges (exchange e m)) (vertex_of r) (next r) at behind (whole_turns r is e lt) numbers

  -- the old first dart of the last edge
  old_first : on_edges (exchange e m) (2 * m) ≡ 2 * e
  old_first = on_edges_even (exchange e m) m ∙ ap (λ (x : ℕ). 2 * x) (exchange_right e m m refl)

  -- the old second
  old_second : on_edges (exchange e m) (2 * m + 1) ≡ 2 * e + 1
  old_second = on_edges_odd (exchange e m) m ∙ ap (λ (x : ℕ). 2 * x + 1) (exchange_right e m m refl)

  -- the new first dart of the edge
  new_first : on_edges (exchange e m) (2 * e) ≡ 2 * m
  new_first = on_edges_even (exchange e m) e ∙ ap (λ (x : ℕ). 2 * x) (exchange_left e m e refl)

  -- the new second
  new_second : on_edges (exchange e m) (2 * e + 1) ≡ 2 * m + 1
  new_second = on_edges_odd (exchange e m) e ∙ ap (λ (x : ℕ). 2 * x + 1) (exchange_left e m e refl)

  -- the two darts lie in one face where they are on no edge
  one_label : labels (graph (face_upto behind m) (2 * suc m)) (2 * m) ≡ labels (graph (face_upto behind m) (2 * suc m))
      (2 * m + 1)
  one_label = ⊎_elim
      (λ h. label_step (face_upto behind m) (2 * suc m) (2 * m) (omega arith)
      ∙ ap (labels (graph (face_upto behind m) (2 * suc m))) (face_upto-past m behind (2 * m) (omega arith) ∙ ap (on_edges (exchange e m)) (ap (next r) old_first ∙ h) ∙ new_second))
      (λ h. sym (label_step (face_upto behind m) (2 * suc m) (2 * m + 1) (omega arith)
      ∙ ap (labels (graph (face_upto behind m) (2 * suc m))) (face_upto-past m behind (2 * m + 1) (omega arith) ∙ ap (on_edges (exchange e m)) (ap (next r) old_second ∙ h) ∙ new_first)))
      side

  -- without it there is one face less, and there are as many components
  pub loop_counts : (f c g b : ℕ) → FaceCount r f → ComponentCount r c → FaceCount (deleted r e) g
      → ComponentCount (deleted r e) b → (f ≡ g + 1) × (c ≡ b)
  loop_counts f c g b faces_r components_r faces_s components_s =
      let law = insert-faces r.vertices m at behind turns one_label in
      let whole : edges r ≡ suc m = omega arith in
      let faces_before : f ≡ faces r.vertices (suc m) at behind = faces_are r is f faces_r ∙ ap (λ n. faces r.vertices n (vertex_of r) (next r)) whole
      ∙ sym (faces-renamed r.vertices (suc m) (λ x. x) (λ x. x) (on_edges (exchange e m)) (on_edges (exchange e m)) (vertex_of r) (next r) at behind (whole_turns r is e lt) numbers) in
      let components_before : c ≡ components r.vertices (suc m) at = components_are r is c components_r ∙ ap (λ n. components r.vertices n (vertex_of r)) whole
      ∙ sym (components-renamed r.vertices (suc m) (λ x. x) (λ x. x) (on_edges (exchange e m)) (on_edges (exchange e m)) (vertex_of r) (next r) at behind (whole_turns r is e lt) numbers) in
      let faces_after : g ≡ faces r.vertices m at (drop_edge m behind) = faces_are (deleted r e) (IsRotation-deleted r is e lt) g faces_s
      ∙ ap (λ n. faces r.vertices n (vertex_of (deleted r e)) (next (deleted r e))) (deleted-edges r is e lt)
      ∙ faces_upto-agree r.vertices (2 * m) m (vertex_of (deleted r e)) (next (deleted r e)) at (drop_edge m behind) (deleted_at r is e lt) (deleted_next r is e lt) (omega arith) in
      let components_after : b ≡ components r.vertices m at = components_are (deleted r e) (IsRotation-deleted r is e lt) b components_s
      ∙ ap (λ n. components r.vertices n (vertex_of (deleted r e))) (deleted-edges r is e lt)
      ∙ components-agree r.vertices m (vertex_of (deleted r e)) at (deleted_at r is e lt) in
      (omega (arith, law.0, faces_before, faces_after), components_before ∙ law.1 ∙ sym components_after)
