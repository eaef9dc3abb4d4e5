-- A rotation system as functions on numbers: its counts are those of the functions.
use Rattle.std.proofs.Common.{◌≡◌, ℕ, ◌+◌, ◌*◌, ◌<◌, ◌↔◌, true, not, List, [], ◌∷◌, length, slice_index, sym, refl, ap, ◌∙◌, subst, arith}
use Rattle.std.proofs.lemmas.Bool.{false≢true}
use Rattle.cp_lists.specs.Count.{IsCount}
use Rattle.cp_orbits.specs.Connected.{IsLeastConnected}
use Rattle.cp_orbits.specs.Orbits.{IsLeastOfOrbit}
use Rattle.cp_orbits.specs.Classes.{labels, graph, orbits, Respects}
use Rattle.cp_lists.specs.CyclicLists.{Has, follow}
use Rattle.cp_faces.specs.Faces.{Rotates, Turns, face_upto, ends_upto, stands, bare, faces, components}
use Rattle.cp_lists.proofs.Counting.{IsCount-same, IsCount-test}
use Rattle.cp_orbits.proofs.ClassLabels.{Respects-from, Respects_at, labels-respects, classes_equal, equal_labels, IsCount-classes}
use Rattle.cp_orbits.proofs.OrbitLaws.{IsCount-orbits, orbits_agree, graph_agree, walk}
use Rattle.cp_faces.proofs.Faces.{stands_at, stands_none, euler_genus}
use Rattle.cp_faces.proofs.Merges.{face_upto-twin}
use Rattle.cp_faces.proofs.Renaming.{Respects-ends, ends-respects}
use Rattle.cp_lists.proofs.DistinctLists.{Has-Contains}
use Rattle.cp_lists.proofs.CyclicLists.{follow-places}
use Rattle.cp_faces.proofs.ListRotations.{Rotates-lists, Rotates-agree}
use Rattle.cp_rot.specs.Systems.{System, darts, edges, vertex_of, list_of, next, IsRotation}
use Rattle.cp_rot.specs.Genus.{face_step, InOneFace, IsBare, FaceCount, end_pairs, ComponentCount, HasGenusZero}
use Rattle.cp_rot.proofs.Rotations.{in_list, item_stands, face_step-Permutes}
use Rattle.cp_rot.proofs.Searches.{end_pair_at, pair_of_edge}
use Rattle.cp_rot.proofs.Euler.{FaceCount-unique, ComponentCount-unique}

-- the dart behind a dart, by recursion along the list
pub next-follow : (r : System) → IsRotation r → (d : ℕ) → d < darts r → next r d ≡ follow (list_of r (vertex_of r d)) d
next-follow r is d lt = sym (follow-places d (list_of r (vertex_of r d)) ((Has-Contains d (list_of r (vertex_of r d))).1 (in_list r is d lt)))

-- a rotation system is a rotation as functions on its darts
pub Turns-system : (r : System) → IsRotation r → Turns r.vertices (edges r) (vertex_of r) (next r)
Turns-system r is = subst (λ n. Rotates r.vertices n (vertex_of r) (next r)) is.paired
    (Rotates-agree r.vertices (darts r) (vertex_of r) (λ d. follow (list_of r (vertex_of r d)) d) (vertex_of r) (next r) (λ d lt. refl) (λ d lt. sym (next-follow r is d lt))
    (Rotates-lists r.vertices (darts r) (vertex_of r) (list_of r) is.placed is.arranged))

-- how many faces the functions of a system have
abbrev pub faces_of : System → ℕ
faces_of r = faces r.vertices (edges r) (vertex_of r) (next r)

-- how many components they have
abbrev pub components_of : System → ℕ
components_of r = components r.vertices (edges r) (vertex_of r)

-- along a dart and on, by the functions
pub face_step-upto : (r : System) → IsRotation r → (d : ℕ) → d < darts r
    → face_step r d ≡ face_upto (next r) (edges r) d
face_step-upto r is d lt = sym (face_upto-twin (edges r) (next r) d (omega (arith, is.paired)))

-- a vertex has an empty list where no dart stands
pub bare-stands : (r : System) → IsRotation r → (v : ℕ) → v < r.vertices
    → (not (stands (vertex_of r) (2 * edges r) v) ≡ true) ↔ IsBare r v
bare-stands r is v lt = (λ t. empty t (list_of r v) refl, λ e. ap not (stands_none (vertex_of r) (2 * edges r) v (λ d l h. none d l h e)))
  where
    none : (d : ℕ) → d < 2 * edges r → vertex_of r d ≡ v → list_of r v ≡ [] → ⊥
    none d l h e = let has : Has d (list_of r v) = subst (λ w. Has d (list_of r w)) h ((Has-Contains d (list_of r (vertex_of r d))).1 (in_list r is d (omega (arith, is.paired)))) in subst (Has d) e has

    empty : not (stands (vertex_of r) (2 * edges r) v) ≡ true → (xs : List ℕ) → list_of r v ≡ xs → list_of r v ≡ []
    empty t [] e = e
    empty t (x ∷ xs) e =
        let stand = item_stands r is v 0 lt (subst (λ ys. 0 < length ys) (sym e) (omega arith)) in
        absurd (false≢true (sym (ap not (stands_at (vertex_of r) (2 * edges r) (slice_index (list_of r v) 0) v (omega (arith, stand.0, is.paired)) stand.1)) ∙ t))

-- the faces are as many as those of the functions
pub FaceCount-faces : (r : System) → IsRotation r → FaceCount r (faces_of r)
FaceCount-faces r is = record {
  least_darts = orbits (2 * edges r) (face_upto (next r) (edges r));
  bare_vertices = bare r.vertices (2 * edges r) (vertex_of r);
  least = subst (IsCount (IsLeastOfOrbit (face_step r)) (darts r)) (ap (λ n. orbits n (face_step r)) is.paired ∙ orbits_agree (face_step r) (face_upto (next r) (edges r)) (2 * edges r) (λ d lt. face_step-upto r is d (omega (arith, is.paired)))) (IsCount-orbits (darts r) (face_step r) (face_step-Permutes r is));
  bare = IsCount-same (λ v. not (stands (vertex_of r) (2 * edges r) v) ≡ true) (IsBare r) r.vertices (bare r.vertices (2 * edges r) (vertex_of r)) (bare-stands r is) (IsCount-test r.vertices (λ v. not (stands (vertex_of r) (2 * edges r) v)));
  sum = refl;
}

-- what has one value at the ends of each edge has it at the pairs of the system
pub Respects-pairs : (r : System) → IsRotation r → {A : Type 0} (g : ℕ → A)
    → Respects g (ends_upto (vertex_of r) (edges r)) → Respects g (end_pairs r.at)
Respects-pairs r is g same = Respects-from g (end_pairs r.at) (λ e c.
    let h = end_pair_at r.at e c.0 c.1 c.2 in
    ap g (sym h.1) ∙ ends-respects g (vertex_of r) (edges r) c.0 same (omega (arith, h.0, is.paired)) ∙ ap g h.2)

-- and the other way round
pub pairs-respects : (r : System) → IsRotation r → {A : Type 0} (g : ℕ → A) → Respects g (end_pairs r.at)
    → Respects g (ends_upto (vertex_of r) (edges r))
pairs-respects r is g same = Respects-ends g (vertex_of r) (edges r) (λ k lt.
    let h = pair_of_edge r.at k (omega (arith, is.paired)) in
    Respects_at g (end_pairs r.at) (vertex_of r (2 * k), vertex_of r (2 * k + 1)) same (k, h.0, h.1 (vertex_of r (2 * k), vertex_of r (2 * k + 1))))

-- the labels of the pairs of the system are those of the ends of its edges
pub pair_labels : (r : System) → IsRotation r → (v : ℕ)
    → labels (end_pairs r.at) v ≡ labels (ends_upto (vertex_of r) (edges r)) v
pair_labels r is v = equal_labels (end_pairs r.at) (ends_upto (vertex_of r) (edges r))
    (Respects-pairs r is (labels (ends_upto (vertex_of r) (edges r))) (labels-respects (ends_upto (vertex_of r) (edges r))))
    (pairs-respects r is (labels (end_pairs r.at)) (labels-respects (end_pairs r.at))) v

-- the components are as many as those of the functions
pub ComponentCount-components : (r : System) → IsRotation r → ComponentCount r (components_of r)
ComponentCount-components r is = subst (IsCount (IsLeastConnected (end_pairs r.at)) r.vertices)
    (classes_equal r.vertices (end_pairs r.at) (ends_upto (vertex_of r) (edges r))
    (Respects-pairs r is (labels (ends_upto (vertex_of r) (edges r))) (labels-respects (ends_upto (vertex_of r) (edges r))))
    (pairs-respects r is (labels (end_pairs r.at)) (labels-respects (end_pairs r.at))))
    (IsCount-classes r.vertices (end_pairs r.at))

-- genus zero, by the functions
abbrev pub IsZero : System → Type 0
IsZero r = r.vertices + faces_of r ≡ edges r + 2 * components_of r

-- a system of genus zero has genus zero by the functions
pub zero_counts : (r : System) → IsRotation r → HasGenusZero r → IsZero r
zero_counts r is z =
    ap (λ f. r.vertices + f) (FaceCount-unique r (faces_of r) z.faces (FaceCount-faces r is) z.face_count)
    ∙ z.euler ∙ ap (λ c. edges r + 2 * c) (ComponentCount-unique r z.components (components_of r) z.component_count (ComponentCount-components r is))

-- and the other way round
pub HasGenusZero-from : (r : System) → IsRotation r → IsZero r → HasGenusZero r
HasGenusZero-from r is z = record {
  faces = faces_of r;
  components = components_of r;
  face_count = FaceCount-faces r is;
  component_count = ComponentCount-components r is;
  euler = z;
}

-- two darts of one face have one label
pub face_labels : (r : System) → IsRotation r → (x y : ℕ) → x < darts r → y < darts r → InOneFace r x y
    → labels (graph (face_upto (next r) (edges r)) (2 * edges r)) x
    ≡ labels (graph (face_upto (next r) (edges r)) (2 * edges r)) y
face_labels r is x y ltx lty reach =
    let same : graph (face_step r) (darts r) ≡ graph (face_upto (next r) (edges r)) (2 * edges r) = graph_agree (face_step r) (face_upto (next r) (edges r)) (darts r) (face_step-upto r is) ∙ ap (graph (face_upto (next r) (edges r))) is.paired in
    subst (λ es. labels es x ≡ labels es y) same ((walk (darts r) (face_step r) (face_step-Permutes r is) x y ltx lty).1 reach)

-- Euler's formula with the genus, for each system
pub genus_of : (r : System) → IsRotation r → (f c : ℕ) → FaceCount r f → ComponentCount r c
    → (g : ℕ) × (r.vertices + f + 2 * g ≡ edges r + 2 * c)
genus_of r is f c faces components =
    let h = euler_genus r.vertices (2 * edges r) (edges r) (vertex_of r) (next r) (Turns-system r is) (omega arith) in (
      h.0,
      ap (λ x. r.vertices + x + 2 * h.0) (FaceCount-unique r f (faces_of r) faces (FaceCount-faces r is))
          ∙ h.1 ∙ ap (λ x. edges r + 2 * x) (ComponentCount-unique r (components_of r) c (ComponentCount-components r is) components),
    )
