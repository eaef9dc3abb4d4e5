-- Two vertices of a rotation system made one, and an edge contracted.
use Rattle.std.proofs.Common.{◌≡◌, ℕ, suc, ◌+◌, ◌-◌, ◌*◌, ◌<◌, ◌≢◌, ◌↔◌, cond, List, eqb, sym, refl, ap, ap₂, ◌∙◌, subst, subst₂, ⊎_elim, arith}
use Rattle.std.proofs.lemmas.Bool.{cases_eq, eq-eqb, eqb-true}
use Rattle.cp_orbits.specs.Classes.{joined}
use Rattle.cp_orbits.specs.Connected.{Connected}
use Rattle.cp_orbits.specs.Orbits.{exchange}
use Rattle.cp_lists.specs.CyclicLists.{follow}
use Rattle.cp_faces.specs.Faces.{Turns, faces, components, drop_edge, contracted, on_edges, renamed_at, renamed_next}
use Rattle.cp_lists.proofs.Counting.{same_tests}
use Rattle.cp_orbits.proofs.ClassLabels.{connected_labels}
use Rattle.cp_orbits.proofs.OrbitLaws.{exchange_left, exchange_right, exchange-below, exchange-exchange}
use Rattle.cp_orbits.proofs.Exchanges.{joined_at, joined_other}
use Rattle.cp_faces.proofs.Merges.{exchange_conjugate}
use Rattle.cp_faces.proofs.Renaming.{on_edges_even, on_edges_odd}
use Rattle.cp_faces.proofs.Insertions.{drop_edge-agree}
use Rattle.cp_faces.proofs.Rewrites.{merged_vertices_within-zero, merged_vertices_between-zero, faces-contracted_edge, components-contracted_edge}
use Rattle.cp_rot.specs.Systems.{System, darts, edges, vertex_of, list_of, next, IsRotation}
use Rattle.cp_rot.specs.Genus.{InOneFace, HasGenusZero, end_pairs}
use Rattle.cp_rot.specs.Rewrites.{spliced, renumbered_vertex, merged_list, merged, contraction}
use Rattle.cp_rot.proofs.Functions.{next-follow, Turns-system, zero_counts, HasGenusZero-from, face_labels, pair_labels}
use Rattle.cp_rot.proofs.Rotations.{next_stands}
use Rattle.cp_rot.proofs.ListSystems.{Listed, Listed-edges, Listed-agree, system_at, system-edges, system_next, IsRotation-system, HasGenusZero_by, Listed-vertices, turn-vertices}
use Rattle.cp_rot.proofs.MergedLists.{new_list, Listed-joined, turn-joined}
use Rattle.cp_rot.proofs.DeletedEdges.{IsRotation-deleted, deleted-edges, deleted_at, deleted_next, on_edges-twice, on_edges-below}

-- w made one with u, and then exchanged with v, is v made one with u after the exchange
pub exchange-joined : (u v w x : ℕ) → exchange w v (joined u w x) ≡ joined (exchange w v u) v (exchange w v x)
exchange-joined u v w x =
    ⊎_elim
    (λ e. ap (exchange w v) (joined_at u w x e) ∙ sym (joined_at (exchange w v u) v (exchange w v x) (exchange_left w v x e)))
    (λ ne. ap (exchange w v) (joined_other u w x ne) ∙ sym (joined_other (exchange w v u) v (exchange w v x) (λ e. ne (sym (exchange-exchange w v x) ∙ ap (exchange w v) e ∙ exchange_right w v v refl))))
    (cases_eq x w)

-- to be u after an exchange is to be the exchange of u
pub eqb-exchange : (u v w x : ℕ) → eqb x (exchange w v u) ≡ eqb (exchange w v x) u
eqb-exchange u v w x = same_tests (eqb x (exchange w v u)) (eqb (exchange w v x) u)
    (λ t. eq-eqb (exchange w v x) u (ap (exchange w v) (eqb-true x (exchange w v u) t) ∙ exchange-exchange w v u))
    (λ t. eq-eqb x (exchange w v u) (sym (exchange-exchange w v x) ∙ ap (exchange w v) (eqb-true (exchange w v x) u t)))

-- darts d and f at different vertices
module _ (r : System) (is : IsRotation r) (d f : ℕ) (ltd : d < darts r) (ltf : f < darts r)
    (apart : vertex_of r d ≢ vertex_of r f) where
  -- the number of vertices that are left
  abbrev pub last : ℕ
  last = r.vertices - 1

  -- the vertex that stays
  abbrev u : ℕ
  u = vertex_of r d

  -- the vertex that goes
  abbrev w : ℕ
  w = vertex_of r f

  -- u is a vertex
  u_below : u < r.vertices
  u_below = is.placed d ltd

  -- w is a vertex
  w_below : w < r.vertices
  w_below = is.placed f ltf

  -- one goes
  one_more : r.vertices ≡ suc last
  one_more = omega (arith, u_below)

  -- the functions of the system
  whole : Listed (suc last) (2 * edges r) (vertex_of r) (list_of r)
  whole = subst (λ v. Listed v (2 * edges r) (vertex_of r) (list_of r)) one_more (Listed-edges r (edges r) is refl)

  -- they are a rotation
  whole_turns : Turns (suc last) (edges r) (vertex_of r) (next r)
  whole_turns = subst (λ v. Turns v (edges r) (vertex_of r) (next r)) one_more (Turns-system r is)

  -- vertices stay vertices
  below : (x : ℕ) → x < suc last → exchange w last x < suc last
  below x l = exchange-below (suc last) w last x (omega (arith, w_below)) (omega arith) l

  -- with the last number for w
  moved : Listed (suc last) (2 * edges r) (λ y. exchange w last (vertex_of r y)) (λ x. list_of r (exchange w last x))
  moved = Listed-vertices (suc last) (2 * edges r) (vertex_of r) (list_of r) whole (exchange w last) (exchange-exchange w last) below

  -- the number of u then
  abbrev u_after : ℕ
  u_after = exchange w last u

  -- it is not the last
  u_after-below : u_after < last
  u_after-below =
      let le : u_after < suc last = below u (omega (arith, u_below)) in
      let ne : u_after ≢ last = λ e. apart (sym (exchange-exchange w last u) ∙ ap (exchange w last) e ∙ exchange_right w last last refl) in
      omega arith

  -- f stands at the last then
  second : exchange w last (vertex_of r f) ≡ last
  second = exchange_left w last w refl

  -- d and f are darts of the edges
  ltd' : d < 2 * edges r
  ltd' = omega (arith, is.paired)

  -- d and f are darts of the edges
  ltf' : f < 2 * edges r
  ltf' = omega (arith, is.paired)

  -- the lists of the result, by the numbers after the exchange
  abbrev lists_after : ℕ → List ℕ
  lists_after = new_list last (2 * edges r) (λ y. exchange w last (vertex_of r y)) (λ x. list_of r (exchange w last x)) moved d f u_after ltd' ltf' refl second u_after-below

  -- they are those of the definition
  same_list : (x : ℕ) → lists_after x ≡ merged_list r d f (renumbered_vertex r w x)
  same_list x =
      ap (λ b. cond b (spliced d f (list_of r (exchange w last x)) (list_of r (exchange w last last))) (list_of r (exchange w last x))) (eqb-exchange u last w x)
      ∙ ap (λ z. cond (eqb (exchange w last x) u) (spliced d f (list_of r (exchange w last x)) (list_of r z)) (list_of r (exchange w last x))) (exchange_right w last last refl)

  -- the vertices are those of the definition
  same_at : (y : ℕ) → joined u_after last (exchange w last (vertex_of r y))
      ≡ renumbered_vertex r w (joined u w (vertex_of r y))
  same_at y = sym (exchange-joined u last w (vertex_of r y))

  -- the functions of the result
  pub Listed-merged : Listed last (2 * edges r) (λ y. renumbered_vertex r w (joined u w (vertex_of r y)))
      (λ x. merged_list r d f (renumbered_vertex r w x))
  Listed-merged = Listed-agree last (2 * edges r) (λ y. joined u_after last (exchange w last (vertex_of r y))) (λ y. renumbered_vertex r w (joined u w (vertex_of r y))) lists_after (λ x. merged_list r d f (renumbered_vertex r w x)) (λ y l. same_at y) (λ x l. same_list x)
      (Listed-joined last (2 * edges r) (λ y. exchange w last (vertex_of r y)) (λ x. list_of r (exchange w last x)) moved d f u_after ltd' ltf' refl second u_after-below)

  -- the result is a rotation system
  pub IsRotation-merged : IsRotation (merged r d f)
  IsRotation-merged = IsRotation-system last (edges r) (λ y. renumbered_vertex r w (joined u w (vertex_of r y))) (λ x. merged_list r d f (renumbered_vertex r w x)) Listed-merged

  -- how many edges it has
  pub merged-edges : edges (merged r d f) ≡ edges r
  merged-edges = system-edges last (edges r) (λ y. renumbered_vertex r w (joined u w (vertex_of r y))) (λ x. merged_list r d f (renumbered_vertex r w x))

  -- where its darts stand
  pub merged_at : (y : ℕ) → y < 2 * edges r → vertex_of (merged r d f) y
      ≡ joined (exchange w last u) last (exchange w last (vertex_of r y))
  merged_at y l = system_at last (edges r) (λ z. renumbered_vertex r w (joined u w (vertex_of r z))) (λ x. merged_list r d f (renumbered_vertex r w x)) y l ∙ sym (same_at y)

  -- what is behind its darts
  pub merged_next : (y : ℕ) → y < 2 * edges r → next (merged r d f) y ≡ next r (exchange d f y)
  merged_next y l =
      system_next last (edges r) (λ z. renumbered_vertex r w (joined u w (vertex_of r z))) (λ x. merged_list r d f (renumbered_vertex r w x)) Listed-merged y l
      ∙ ap₂ (λ x xs. follow xs y) (sym (same_at y)) (sym (same_list (renumbered_vertex r w (joined u w (vertex_of r y)))))
      ∙ ap (λ x. follow (lists_after x) y) (sym (same_at y))
      ∙ turn-joined last (2 * edges r) (λ z. exchange w last (vertex_of r z)) (λ x. list_of r (exchange w last x)) moved d f u_after ltd' ltf' refl second u_after-below y l
      ∙ turn-vertices (suc last) (2 * edges r) (vertex_of r) (list_of r) whole (exchange w last) (exchange-exchange w last) below (exchange d f y)
      ∙ sym (next-follow r is (exchange d f y) (omega (arith, exchange-below (2 * edges r) d f y ltd' ltf' l, is.paired)))

  -- its genus is zero where the functions say so
  merged_zero_by : HasGenusZero (merged r d f) ↔ (last + faces last (edges r)
      (λ y. joined (exchange w last u) last (exchange w last (vertex_of r y)))
      (λ y. next r (exchange d f y)) ≡ edges r + 2 * components last (edges r)
      (λ y. joined (exchange w last u) last (exchange w last (vertex_of r y))))
  merged_zero_by = HasGenusZero_by (merged r d f) last (edges r) (λ y. joined (exchange w last u) last (exchange w last (vertex_of r y))) (λ y. next r (exchange d f y)) IsRotation-merged refl merged-edges merged_at merged_next

  -- genus zero of the system, by its functions
  zero_before : HasGenusZero r → suc last + faces (suc last) (edges r) (vertex_of r) (next r)
      ≡ edges r + 2 * components (suc last) (edges r) (vertex_of r)
  zero_before z = subst (λ v. v + faces v (edges r) (vertex_of r) (next r) ≡ edges r + 2 * components v (edges r) (vertex_of r)) one_more (zero_counts r is z)

  -- within a face genus zero stays
  pub merged_within-HasGenusZero : InOneFace r (next r d) (next r f) → HasGenusZero r → HasGenusZero (merged r d f)
  merged_within-HasGenusZero one z = merged_zero_by.1 (merged_vertices_within-zero last (edges r) d f u w (vertex_of r) (next r) whole_turns ltd' ltf' refl refl apart
      (face_labels r is (next r d) (next r f) (next_stands r is d ltd).0 (next_stands r is f ltf).0 one) (zero_before z))

  -- between two components genus zero stays
  pub merged_between-HasGenusZero : (Connected (end_pairs r.at) u w → ⊥) → HasGenusZero r → HasGenusZero (merged r d f)
  merged_between-HasGenusZero two z = merged_zero_by.1 (merged_vertices_between-zero last (edges r) d f u w (vertex_of r) (next r) whole_turns ltd' ltf' refl refl apart
      (λ e. two (connected_labels (end_pairs r.at) u w (pair_labels r is u ∙ e ∙ sym (pair_labels r is w)))) (zero_before z))

-- an edge that is no loop
module _ (r : System) (is : IsRotation r) (e : ℕ) (lt : e < edges r)
    (apart : vertex_of r (2 * e) ≢ vertex_of r (2 * e + 1)) where
  -- how many vertices and edges are left
  abbrev last_vertex : ℕ
  last_vertex = r.vertices - 1

  -- how many vertices and edges are left
  abbrev last_edge : ℕ
  last_edge = edges r - 1

  -- the vertex that stays
  abbrev source : ℕ
  source = vertex_of r (2 * e)

  -- the vertex that goes
  abbrev target : ℕ
  target = vertex_of r (2 * e + 1)

  -- the first dart is one
  lt_first : 2 * e < darts r
  lt_first = omega (arith, is.paired)

  -- the second dart is one
  lt_second : 2 * e + 1 < darts r
  lt_second = omega (arith, is.paired)

  -- the system with the two vertices made one
  abbrev one_vertex : System
  one_vertex = merged r (2 * e) (2 * e + 1)

  -- is a rotation system
  one_rotation : IsRotation one_vertex
  one_rotation = IsRotation-merged r is (2 * e) (2 * e + 1) lt_first lt_second apart

  -- has the same edges
  one_edges : edges one_vertex ≡ edges r
  one_edges = merged-edges r is (2 * e) (2 * e + 1) lt_first lt_second apart

  -- the edge is one of them
  lt_one : e < edges one_vertex
  lt_one = omega (arith, one_edges)

  -- the system with the vertices made one is a rotation system, and has the edge
  pub contraction_start : IsRotation (merged r (2 * e) (2 * e + 1)) × (e < edges (merged r (2 * e) (2 * e + 1)))
  contraction_start = (one_rotation, lt_one)

  -- the result is a rotation system
  pub IsRotation-contraction : IsRotation (contraction r e)
  IsRotation-contraction = IsRotation-deleted one_vertex one_rotation e lt_one

  -- how many edges it has
  contraction-edges : edges (contraction r e) ≡ last_edge
  contraction-edges = deleted-edges one_vertex one_rotation e lt_one ∙ ap (λ (n : ℕ). n - 1) one_edges

  -- the exchange of edges undoes itself
  back_again : (d : ℕ) → on_edges (exchange e last_edge) (on_edges (exchange e last_edge) d) ≡ d
  back_again = on_edges-twice (exchange e last_edge) (exchange-exchange e last_edge)

  -- the darts stay below their number
  moved_below : (d : ℕ) → d < 2 * edges r → on_edges (exchange e last_edge) d < 2 * edges r
  moved_below d l = on_edges-below (edges r) (exchange e last_edge) (λ x m. exchange-below (edges r) e last_edge x lt (omega arith) m) d l

  -- where its darts stand
  contraction_at : (d : ℕ) → d < 2 * last_edge → vertex_of (contraction r e) d
      ≡ joined (exchange target last_vertex source) last_vertex (renamed_at (exchange target last_vertex)
      (exchange e last_edge) (vertex_of r) d)
  contraction_at d l =
      deleted_at one_vertex one_rotation e lt_one d (omega (arith, one_edges))
      ∙ ap (λ (n : ℕ). vertex_of one_vertex (on_edges (exchange e (n - 1)) d)) one_edges
      ∙ merged_at r is (2 * e) (2 * e + 1) lt_first lt_second apart (on_edges (exchange e last_edge) d) (moved_below d (omega arith))

  -- exchanging the darts of the edge before or after the edge has the last number
  conjugated : (d : ℕ) → exchange (2 * e) (2 * e + 1) (on_edges (exchange e last_edge) d)
      ≡ on_edges (exchange e last_edge) (exchange (2 * last_edge) (2 * last_edge + 1) d)
  conjugated d =
      exchange_conjugate (on_edges (exchange e last_edge)) (2 * e) (2 * e + 1) d back_again
      ∙ ap₂ (λ a b. on_edges (exchange e last_edge) (exchange a b d))
      (on_edges_even (exchange e last_edge) e ∙ ap (λ (x : ℕ). 2 * x) (exchange_left e last_edge e refl))
      (on_edges_odd (exchange e last_edge) e ∙ ap (λ (x : ℕ). 2 * x + 1) (exchange_left e last_edge e refl))

  -- what is behind its darts
  contraction_next : (d : ℕ) → d < 2 * last_edge → next (contraction r e) d
      ≡ contracted last_edge (renamed_next (exchange e last_edge) (exchange e last_edge) (next r)) d
  contraction_next d l =
      deleted_next one_vertex one_rotation e lt_one d (omega (arith, one_edges))
      ∙ ap (λ (n : ℕ). drop_edge (n - 1) (renamed_next (exchange e (n - 1)) (exchange e (n - 1)) (next one_vertex)) d) one_edges
      ∙ drop_edge-agree last_edge (renamed_next (exchange e last_edge) (exchange e last_edge) (next one_vertex)) (λ y. renamed_next (exchange e last_edge) (exchange e last_edge) (next r) (exchange (2 * last_edge) (2 * last_edge + 1) y))
      (λ y m. ap (on_edges (exchange e last_edge)) (
      merged_next r is (2 * e) (2 * e + 1) lt_first lt_second apart (on_edges (exchange e last_edge) y) (moved_below y (omega arith))
      ∙ ap (next r) (conjugated y)))
      d (omega arith)

  -- its genus is zero where it was zero before
  pub contraction-HasGenusZero : HasGenusZero (contraction r e) ↔ HasGenusZero r
  contraction-HasGenusZero = (
    λ z. HasGenusZero-from r is (subst₂ (λ v n. v + faces v n (vertex_of r) (next r) ≡ n + 2 * components v n (vertex_of r)) (sym one_more_vertex) (sym one_more_edge) (let h = by_functions.0 z in omega (arith, h, same_faces, same_components))),
    λ z. by_functions.1 (let h = subst₂ (λ v n. v + faces v n (vertex_of r) (next r) ≡ n + 2 * components v n (vertex_of r)) one_more_vertex one_more_edge (zero_counts r is z) in omega (arith, h, same_faces, same_components)),
  )
    where
      one_more_vertex : r.vertices ≡ suc last_vertex
      one_more_vertex = omega (arith, is.placed (2 * e) lt_first)

      one_more_edge : edges r ≡ suc last_edge
      one_more_edge = omega arith

      turns : Turns (suc last_vertex) (suc last_edge) (vertex_of r) (next r)
      turns = subst₂ (λ v n. Turns v n (vertex_of r) (next r)) one_more_vertex one_more_edge (Turns-system r is)

      by_functions : HasGenusZero (contraction r e)
          ↔
          (last_vertex + faces last_vertex last_edge (λ d. joined (exchange target last_vertex source) last_vertex
          (renamed_at (exchange target last_vertex) (exchange e last_edge) (vertex_of r) d))
          (contracted last_edge (renamed_next (exchange e last_edge) (exchange e last_edge) (next r)))
          ≡ last_edge + 2 * components last_vertex last_edge
          (λ d. joined (exchange target last_vertex source) last_vertex (renamed_at (exchange target last_vertex)
          (exchange e last_edge) (vertex_of r) d)))
      by_functions = HasGenusZero_by (contraction r e) last_vertex last_edge (λ d. joined (exchange target last_vertex source) last_vertex (renamed_at (exchange target last_vertex) (exchange e last_edge) (vertex_of r) d)) (contracted last_edge (renamed_next (exchange e last_edge) (exchange e last_edge) (next r))) IsRotation-contraction refl contraction-edges contraction_at contraction_next

      same_faces : faces last_vertex last_edge (λ d. joined (exchange target last_vertex source) last_vertex
          (renamed_at (exchange target last_vertex) (exchange e last_edge) (vertex_of r) d))
          (contracted last_edge (renamed_next (exchange e last_edge) (exchange e last_edge) (next r)))
          ≡ faces (suc last_vertex) (suc last_edge) (vertex_of r) (next r)
      same_faces = faces-contracted_edge last_vertex last_edge e source target (vertex_of r) (next r) turns (omega arith) refl refl apart

      same_components : components last_vertex last_edge
          (λ d. joined (exchange target last_vertex source) last_vertex (renamed_at (exchange target last_vertex)
          (exchange e last_edge) (vertex_of r) d)) ≡ components (suc last_vertex) (suc last_edge) (vertex_of r)
      same_components = components-contracted_edge last_vertex last_edge e source target (vertex_of r) (next r) turns (omega arith) refl refl apart
