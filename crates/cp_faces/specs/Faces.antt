-- Rotations as functions on numbers: dart d stands at the vertex at d, and next d is the dart behind it.
-- Edge i has the darts 2i and 2i + 1. Proofs count by these; contracts do not.
use Rattle.std.specs.Prelude.{◌≡◌, ℕ, zero, suc, ◌+◌, ◌*◌, ◌/◌, ◌%◌, ◌<◌, Bool, cond, false, not, ◌||◌, eqb, List, [], ◌∷◌}
use Rattle.cp_lists.specs.Count.{count}
use Rattle.cp_orbits.specs.Classes.{classes, orbits}
use Rattle.cp_orbits.specs.Orbits.{Permutes, Reaches, exchange, splice, put, Renumbers}

-- n darts stand at vertices below v; next permutes them, stays at a vertex, and leads from each dart there to each other
pub record Rotates (v n : ℕ) (at next : ℕ → ℕ) : Type 0 where
  pub permutes : Permutes n next
  pub placed : (d : ℕ) → d < n → at d < v
  pub kept : (d : ℕ) → d < n → at (next d) ≡ at d
  pub around : (c d : ℕ) → c < n → d < n → at c ≡ at d → Reaches next c d

-- the darts are those of e edges
abbrev pub Turns : ℕ → ℕ → (ℕ → ℕ) → (ℕ → ℕ) → Type 0
Turns v e at next = Rotates v (2 * e) at next

-- the two ends of each of the first i edges
abbrev pub ends_upto : (ℕ → ℕ) → ℕ → List (ℕ × ℕ)
ends_upto at zero = []
ends_upto at (suc i) = (at (2 * i), at (2 * i + 1)) ∷ ends_upto at i

-- along the edge of a dart, if it is one of the first i edges, and then to the dart behind
abbrev pub face_upto : (ℕ → ℕ) → ℕ → ℕ → ℕ
face_upto next zero d = next d
face_upto next (suc i) d = face_upto next i (exchange (2 * i) (2 * i + 1) d)

-- one of the first n darts stands at x
abbrev pub stands : (ℕ → ℕ) → ℕ → ℕ → Bool
stands at zero x = false
stands at (suc n) x = eqb (at n) x || stands at n x

-- how many of the v vertices have none of the first n darts
abbrev pub bare : ℕ → ℕ → (ℕ → ℕ) → ℕ
bare v n at = count v (λ x. not (stands at n x))

-- how many faces n darts make of which the first i edges are there, bare vertices included
abbrev pub faces_upto : ℕ → ℕ → ℕ → (ℕ → ℕ) → (ℕ → ℕ) → ℕ
faces_upto v n i at next = orbits n (face_upto next i) + bare v n at

-- how many faces a rotation of e edges has
abbrev pub faces : ℕ → ℕ → (ℕ → ℕ) → (ℕ → ℕ) → ℕ
faces v e at next = faces_upto v (2 * e) e at next

-- how many components it has
abbrev pub components : ℕ → ℕ → (ℕ → ℕ) → ℕ
components v e at = classes v (ends_upto at e)

-- without the last of e + 1 edges
abbrev pub drop_edge : ℕ → (ℕ → ℕ) → ℕ → ℕ
drop_edge e next = splice (splice next (2 * e + 1)) (2 * e)

-- without the last of e + 1 edges, at whose two darts the vertices were merged
abbrev pub contracted : ℕ → (ℕ → ℕ) → ℕ → ℕ
contracted e next = drop_edge e (λ d. next (exchange (2 * e) (2 * e + 1) d))

-- the other dart of the same edge, for a dart of the first i edges, and else the dart itself
abbrev pub partner : ℕ → ℕ → ℕ
partner i d = face_upto (λ x. x) i d

-- the rotation of at' and next' is that of at and next with new numbers: h and back for the v vertices,
-- k and undo for the darts of the e edges
pub record Renames (v e : ℕ) (h back k undo : ℕ → ℕ) (at next at' next' : ℕ → ℕ) : Type 0 where
  pub vertices : Renumbers v h back
  pub darts : Renumbers (2 * e) k undo
  pub pairs : (d : ℕ) → d < 2 * e → partner e (k d) ≡ k (partner e d)
  pub stand : (d : ℕ) → d < 2 * e → at' (k d) ≡ h (at d)
  pub follow : (d : ℕ) → d < 2 * e → next' (k d) ≡ k (next d)

-- the dart d of an edge, where edge i has the new number p i
abbrev pub on_edges : (ℕ → ℕ) → ℕ → ℕ
on_edges p d = 2 * p (d / 2) + d % 2

-- at which vertex a dart stands, where the vertices have the new numbers h, and the edges the old numbers q
abbrev pub renamed_at : (ℕ → ℕ) → (ℕ → ℕ) → (ℕ → ℕ) → ℕ → ℕ
renamed_at h q at d = h (at (on_edges q d))

-- the dart behind a dart, where the edges have the new numbers p and the old numbers q
abbrev pub renamed_next : (ℕ → ℕ) → (ℕ → ℕ) → (ℕ → ℕ) → ℕ → ℕ
renamed_next p q next d = on_edges p (next (on_edges q d))

-- with an edge e more, its first dart behind d and its second behind f, or behind its first where f is d
abbrev pub put_edge : ℕ → ℕ → ℕ → (ℕ → ℕ) → ℕ → ℕ
put_edge e d f next = put (put next (2 * e) d) (2 * e + 1) (cond (eqb f d) (2 * e) f)
