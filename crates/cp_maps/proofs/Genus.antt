-- The genus of maps: equal genus is an equivalence, and no map has a genus below zero.
use Rattle.std.proofs.Common.{◌≡◌, ℕ, ◌<◌, sym, ap, ◌∙◌, subst, ◌+◌, ◌*◌, ◌≤◌, arith, ◌↔◌}
use Rattle.cp_orbits.specs.Classes.{classes, graph, labels, orbits}
use Rattle.cp_orbits.specs.Connected.{Connected}
use Rattle.cp_orbits.specs.Orbits.{Permutes, Reaches}
use Rattle.cp_orbits.proofs.ClassLabels.{Connected-labels, labels-le}
use Rattle.cp_orbits.proofs.OrbitLaws.{graph_agree, label_step, orbits_agree, reached_labels, walk}
use Rattle.cp_faces.specs.Faces.{Rotates, face_upto, partner}
use Rattle.cp_faces.proofs.Faces.{euler_bound, orbits-bare}
use Rattle.cp_faces.proofs.Merges.{face_upto-partner}
use Rattle.cp_faces.proofs.Renaming.{partner-within}
use Rattle.cp_maps.specs.Genus.{IsFlat, OneFace, OneGenus, OnePart, RaisesGenus, SameGenus, linked, parts, rounds}
use Rattle.cp_maps.proofs.FlatMaps.{linked_agree}
use Rattle.cp_maps.proofs.FlatRotations.{components_linked}

-- of two maps of one genus both are flat or none
pub SameGenus-IsFlat : (e : ℕ) (f g : ℕ → ℕ) → SameGenus e f g → IsFlat e f → IsFlat e g
SameGenus-IsFlat e f g same flat = omega (arith, same, flat)

-- equal genus holds the other way round
pub SameGenus-sym : (e : ℕ) (f g : ℕ → ℕ) → SameGenus e f g → SameGenus e g f
SameGenus-sym e f g same = sym same

-- equal genus holds over a third map
pub SameGenus-trans : (e : ℕ) (f g h : ℕ → ℕ) → SameGenus e f g → SameGenus e g h → SameGenus e f h
SameGenus-trans e f g h one two = omega (arith, one, two)

-- maps that agree have one genus
pub SameGenus-agree : (e : ℕ) (f g : ℕ → ℕ) → Permutes (2 * e) f → ((d : ℕ) → d < 2 * e → f d ≡ g d) → SameGenus e f g
SameGenus-agree e f g perm same =
    let one : parts e f ≡ parts e g = ap (classes (2 * e)) (linked_agree f g (2 * e) e same) in
    let two : orbits (2 * e) f ≡ orbits (2 * e) g = orbits_agree f g (2 * e) same in
    let three_exchanges : rounds e f ≡ rounds e g =
    orbits_agree (face_upto f e) (face_upto g e) (2 * e)
    (λ d lt. face_upto-partner e f d ∙ same (partner e d) (partner-within e d lt) ∙ sym (face_upto-partner e g d)) in
    omega (arith, one, two, three_exchanges)

-- of two maps of one genus on two stocks of edges both are flat or none
pub OneGenus-IsFlat : (e : ℕ) (f : ℕ → ℕ) (m : ℕ) (g : ℕ → ℕ) → OneGenus e f m g → IsFlat e f → IsFlat m g
OneGenus-IsFlat e f m g same flat = omega (arith, same, flat)

-- equal genus on two stocks holds the other way round
pub OneGenus-sym : (e : ℕ) (f : ℕ → ℕ) (m : ℕ) (g : ℕ → ℕ) → OneGenus e f m g → OneGenus m g e f
OneGenus-sym e f m g same = sym same

-- equal genus holds over a map on a third stock
pub OneGenus-trans : (e : ℕ) (f : ℕ → ℕ) (m : ℕ) (g : ℕ → ℕ) (k : ℕ) (h : ℕ → ℕ) → OneGenus e f m g → OneGenus m g k h
    → OneGenus e f k h
OneGenus-trans e f m g k h one two = omega (arith, one, two)

-- Euler's inequality: vertices and faces are at most the edges and twice the components
pub euler_map : (e : ℕ) (f : ℕ → ℕ) → Permutes (2 * e) f → orbits (2 * e) f + rounds e f ≤ e + 2 * parts e f
euler_map e f perm =
    omega (
      arith,
      euler_bound (2 * e) e (labels (graph f (2 * e))) f rot,
      components_linked (2 * e) e
          (labels (graph f (2 * e))) f rot,
      orbits-bare (2 * e) (2 * e) (labels (graph f (2 * e))) f rot,
    )
  where
    rot : Rotates (2 * e) (2 * e) (labels (graph f (2 * e))) f
    rot = record {
      permutes = perm;
      placed = λ d lt. omega (arith, labels-le (graph f (2 * e)) d);
      kept = λ d lt. sym (label_step f (2 * e) d lt);
      around = λ c d ltc ltd e'. reached_labels (2 * e) f perm c d ltc ltd e';
    }

-- a map whose genus is greater than that of another is not flat
pub RaisesGenus-not_flat : (e : ℕ) (f g : ℕ → ℕ) → Permutes (2 * e) f → RaisesGenus e f g → IsFlat e g → ⊥
RaisesGenus-not_flat e f g perm more z = omega (arith, euler_map e f perm, more, z)

-- darts of one face are of one in a map that agrees
pub OneFace-agree : (e : ℕ) (f g : ℕ → ℕ) (a b : ℕ) → ((d : ℕ) → d < 2 * e → f d ≡ g d) → OneFace e f a b
    → OneFace e g a b
OneFace-agree e f g a b same one =
    subst (λ es. labels es a ≡ labels es b)
    (graph_agree (face_upto f e) (face_upto g e) (2 * e)
    (λ d lt. face_upto-partner e f d ∙ same (partner e d) (partner-within e d lt) ∙ sym (face_upto-partner e g d))) one

-- to be in one face is to be reached by the step along an edge and on
pub OneFace-Reaches : (e : ℕ) (f : ℕ → ℕ) (a b : ℕ) → Permutes (2 * e) (face_upto f e) → a < 2 * e → b < 2 * e
    → OneFace e f a b ↔ Reaches (face_upto f e) a b
OneFace-Reaches e f a b perm lta ltb = walk (2 * e) (face_upto f e) perm a b lta ltb

-- to be of one component is to be connected by steps and edges
pub OnePart-Connected : (e : ℕ) (f : ℕ → ℕ) (a b : ℕ) → Connected (linked f (2 * e) e) a b ↔ OnePart e f a b
OnePart-Connected e f a b = Connected-labels (linked f (2 * e) e) a b
