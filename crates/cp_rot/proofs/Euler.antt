-- Euler's formula, computed from the counts.
use Rattle.std.proofs.Common.{◌≡◌, ℕ, ◌+◌, ◌*◌, ◌/◌, ◌≤◌, ◌↔◌, true, eqb, sym, ap, ap₂, ◌∙◌, arith}
use Rattle.std.proofs.lemmas.Bool.{eqb-true, eq-eqb}
use Rattle.cp_orbits.specs.Connected.{IsLeastConnected}
use Rattle.cp_orbits.specs.Orbits.{IsLeastOfOrbit}
use Rattle.cp_lists.proofs.Counting.{IsCount-unique, IsCount-le}
use Rattle.cp_rot.specs.Systems.{System, darts}
use Rattle.cp_rot.specs.Genus.{face_step, end_pairs, IsBare, FaceCount, ComponentCount, HasGenusZero}

-- a system has one number of faces
pub FaceCount-unique : (r : System) (f g : ℕ) → FaceCount r f → FaceCount r g → f ≡ g
FaceCount-unique r f g a b =
    let least : a.least_darts ≡ b.least_darts = IsCount-unique (IsLeastOfOrbit (face_step r)) (darts r) a.least_darts b.least_darts a.least b.least in
    let bare : a.bare_vertices ≡ b.bare_vertices = IsCount-unique (IsBare r) r.vertices a.bare_vertices b.bare_vertices a.bare b.bare in
    a.sum ∙ ap₂ (λ (x y : ℕ). x + y) least bare ∙ sym b.sum

-- there are at most as many faces as darts and vertices
pub FaceCount-le : (r : System) (f : ℕ) → FaceCount r f → f ≤ darts r + r.vertices
FaceCount-le r f a = omega (arith, a.sum, IsCount-le (IsLeastOfOrbit (face_step r)) (darts r) a.least_darts a.least, IsCount-le (IsBare r) r.vertices a.bare_vertices a.bare)

-- there are at most as many components as vertices
pub ComponentCount-le : (r : System) (c : ℕ) → ComponentCount r c → c ≤ r.vertices
ComponentCount-le r c = IsCount-le (IsLeastConnected (end_pairs r.at)) r.vertices c

-- a system has one number of components
pub ComponentCount-unique : (r : System) (c d : ℕ) → ComponentCount r c → ComponentCount r d → c ≡ d
ComponentCount-unique r c d = IsCount-unique (IsLeastConnected (end_pairs r.at)) r.vertices c d

-- the genus is zero exactly where the counts agree
pub genus_decided : (r : System) (v n f c : ℕ) → v ≡ r.vertices → n ≡ darts r → FaceCount r f → ComponentCount r c
    → (eqb (v + f) (n / 2 + 2 * c) ≡ true) ↔ HasGenusZero r
genus_decided r v n f c ev en faces components = (
  λ t. record {
    faces = f;
    components = c;
    face_count = faces;
    component_count = components;
    euler = ap (λ x. x + f) (sym ev) ∙ eqb-true (v + f) (n / 2 + 2 * c) t ∙ ap (λ x. x / 2 + 2 * c) en;
  },
  λ z. eq-eqb (v + f) (n / 2 + 2 * c)
      (ap₂ (λ (x y : ℕ). x + y) ev (FaceCount-unique r f z.faces faces z.face_count) ∙ z.euler
      ∙ ap₂ (λ (x y : ℕ). x / 2 + 2 * y) (sym en) (ComponentCount-unique r z.components c z.component_count components)),
)
