-- Faces and components of a system are those of its map.
use Rattle.std.proofs.Common.{◌≡◌, ℕ, ◌<◌, sym, ap, ◌∙◌, subst, ◌*◌, ◌↔◌}
use Rattle.cp_orbits.specs.Classes.{graph, labels}
use Rattle.cp_orbits.specs.Connected.{here, step}
use Rattle.cp_orbits.specs.Orbits.{Permutes}
use Rattle.cp_orbits.proofs.ClassLabels.{Connected-labels, labels-respects, same_labels}
use Rattle.cp_orbits.proofs.OrbitLaws.{Respects-graph, graph_agree, walk}
use Rattle.cp_faces.specs.Faces.{ends_upto, face_upto}
use Rattle.cp_faces.specs.Twins.{twin}
use Rattle.cp_faces.proofs.Faces.{vertex-orbit}
use Rattle.cp_faces.proofs.Renaming.{ends-respects}
use Rattle.cp_faces.proofs.Twins.{twin-below}
use Rattle.cp_rot.specs.Genus.{InOneFace, Joined, end_pairs, face_step}
use Rattle.cp_rot.specs.Systems.{IsRotation, System, darts, edges, next, vertex_of}
use Rattle.cp_rot.proofs.Functions.{Turns-system, face_step-upto, pair_labels}
use Rattle.cp_rot.proofs.Rotations.{face_step-Permutes}
use Rattle.cp_rot.proofs.Searches.{joined_darts}
use Rattle.cp_maps.specs.Genus.{OneFace, OnePart, linked}
use Rattle.cp_maps.proofs.Edges.{twin-OnePart}
use Rattle.cp_maps.proofs.FlatMaps.{linked-from, linked-graph}

-- two darts of a system are in one face as in its map
pub system_face : (r : System) → IsRotation r → (x y : ℕ) → x < darts r → y < darts r
    → InOneFace r x y ↔ OneFace (edges r) (next r) x y
system_face r is x y ltx lty =
    let same : graph (face_step r) (darts r) ≡ graph (face_upto (next r) (edges r)) (2 * edges r) =
    graph_agree (face_step r) (face_upto (next r) (edges r)) (darts r) (face_step-upto r is)
    ∙ ap (graph (face_upto (next r) (edges r))) is.paired in
    let w = walk (darts r) (face_step r) (face_step-Permutes r is) x y ltx lty in (
      λ reach. subst (λ es. labels es x ≡ labels es y) same (w.1 reach),
      λ one. w.0 (subst (λ es. labels es x ≡ labels es y) (sym same) one),
    )

-- darts of one vertex are of one component
one_place : (r : System) → IsRotation r → (x y : ℕ) → x < darts r → y < darts r → vertex_of r x ≡ vertex_of r y
    → OnePart (edges r) (next r) x y
one_place r is x y ltx lty same =
    same_labels (labels (linked (next r) (2 * edges r) (edges r))) (graph (next r) (2 * edges r)) x y
    (linked-graph (labels (linked (next r) (2 * edges r) (edges r))) (next r) (2 * edges r) (edges r)
    (labels-respects (linked (next r) (2 * edges r) (edges r))))
    (vertex-orbit r.vertices (2 * edges r) (vertex_of r) (next r) (Turns-system r is) x y
    (subst (λ n. x < n) is.paired ltx) (subst (λ n. y < n) is.paired lty) same)

-- where darts are of one component, their vertices are joined
pub part_joined : (r : System) → IsRotation r → (x y : ℕ) → OnePart (edges r) (next r) x y
    → Joined r (vertex_of r x) (vertex_of r y)
part_joined r is x y one = (Connected-labels (end_pairs r.at) (vertex_of r x) (vertex_of r y)).1 (
    pair_labels r is (vertex_of r x)
    ∙ same_labels (λ d. labels (ends_upto (vertex_of r) (edges r)) (vertex_of r d))
    (linked (next r) (2 * edges r) (edges r)) x y
    (linked-from (λ d. labels (ends_upto (vertex_of r) (edges r)) (vertex_of r d)) (next r) (2 * edges r) (edges r)
    (Respects-graph (λ d. labels (ends_upto (vertex_of r) (edges r)) (vertex_of r d)) (next r) (2 * edges r)
    (λ d lt. ap (labels (ends_upto (vertex_of r) (edges r))) (sym ((Turns-system r is).kept d lt))))
    (λ k lt. ends-respects (labels (ends_upto (vertex_of r) (edges r))) (vertex_of r) (edges r) k
    (labels-respects (ends_upto (vertex_of r) (edges r))) lt)) one
    ∙ sym (pair_labels r is (vertex_of r y))
    )

-- where vertices of a system are joined, their darts are of one component
pub joined_part : (r : System) → IsRotation r → (v w : ℕ) → Joined r v w → (x y : ℕ) → x < darts r → y < darts r
    → vertex_of r x ≡ v → vertex_of r y ≡ w → OnePart (edges r) (next r) x y
joined_part r is v w here x y ltx lty ex ey = one_place r is x y ltx lty (ex ∙ sym ey)
joined_part r is v w (step {y = u} q e c j) x y ltx lty ex ey =
    let d = joined_darts r e u w c j in
    let lt : d.0 < 2 * edges r = subst (λ n. d.0 < n) is.paired d.1 in
    let perm : Permutes (2 * edges r) (next r) = (Turns-system r is).permutes in
    let lt_twin_d : twin d.0 < darts r = twin-below (darts r) d.0 is.paired d.1 in
    joined_part r is v u q x d.0 ltx d.1 ex d.2 ∙ sym (twin-OnePart (edges r) (next r) perm d.0 lt)
    ∙ one_place r is (twin d.0) y lt_twin_d lty (d.3 ∙ sym ey)
