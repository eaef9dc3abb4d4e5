-- Vertices more at which no dart stands.
use Rattle.std.proofs.Common.{◌≡◌, ℕ, suc, ◌+◌, ◌*◌, ◌<◌, ◌≤◌, cond, not, ltb, eqb, sym, ap, ◌∙◌, ⊎_elim, arith}
use Rattle.std.proofs.lemmas.Bool.{cases_lt, cond-true, cond-false, lt-ltb, le-ltb, eq-eqb, not_from_false}
use Rattle.cp_orbits.specs.Classes.{labels}
use Rattle.cp_faces.specs.Faces.{Rotates, ends_upto, stands, bare, faces, components}
use Rattle.cp_lists.proofs.Counting.{count_all}
use Rattle.cp_orbits.proofs.ClassLabels.{labels-keeps}
use Rattle.cp_faces.proofs.Faces.{stands_none}
use Rattle.cp_faces.proofs.Renaming.{Respects-ends}
use Rattle.cp_faces.proofs.Parts.{count_add}

-- a rotation stays one
pub Rotates-more : (v w n : ℕ) (at next : ℕ → ℕ) → v ≤ w → Rotates v n at next → Rotates w n at next
Rotates-more v w n at next le rot = record { permutes = rot.permutes; placed = λ d lt. omega (arith, rot.placed d lt); kept = rot.kept; around = rot.around }

-- each is bare
pub bare-more_vertices : (v m n : ℕ) (at : ℕ → ℕ) → ((d : ℕ) → d < n → at d < v) → bare (v + m) n at ≡ bare v n at + m
bare-more_vertices v m n at placed =
    count_add v m (λ x. not (stands at n x))
    ∙ ap (λ (k : ℕ). bare v n at + k) (count_all m (λ x. not (stands at n (v + x))) (λ x lt. not_from_false (stands at n (v + x)) (stands_none at n (v + x) (λ d l e. omega (arith, placed d l)))))

-- each is a face
pub faces-more_vertices : (v m e : ℕ) (at next : ℕ → ℕ) → ((d : ℕ) → d < 2 * e → at d < v)
    → faces (v + m) e at next ≡ faces v e at next + m
faces-more_vertices v m e at next placed = omega (arith, bare-more_vertices v m (2 * e) at placed)

-- a number that no dart stands at or above is its own label
pub label_outside : (v e : ℕ) (at : ℕ → ℕ) → ((d : ℕ) → d < 2 * e → at d < v) → (x : ℕ) → v ≤ x
    → labels (ends_upto at e) x ≡ x
label_outside v e at placed x le =
    let same : g (labels (ends_upto at e) x) ≡ g x = labels-keeps g (ends_upto at e) (Respects-ends g at e (λ k lt. low (at (2 * k)) (placed (2 * k) (omega arith)) ∙ sym (low (at (2 * k + 1)) (placed (2 * k + 1) (omega arith))))) x in
    ⊎_elim
    (λ l. absurd (omega (arith, same, low (labels (ends_upto at e) x) l, high x le)))
    (λ h. omega (arith, same, high (labels (ends_upto at e) x) h, high x le))
    (cases_lt (labels (ends_upto at e) x) v)
  where
    g : ℕ → ℕ
    g y = cond (ltb y v) 0 (suc y)

    low : (y : ℕ) → y < v → g y ≡ 0
    low y lt = cond-true (ltb y v) 0 (suc y) (lt-ltb y v lt)

    high : (y : ℕ) → v ≤ y → g y ≡ suc y
    high y h = cond-false (ltb y v) 0 (suc y) (le-ltb y v h)

-- each is a component
pub components-more_vertices : (v m e : ℕ) (at : ℕ → ℕ) → ((d : ℕ) → d < 2 * e → at d < v)
    → components (v + m) e at ≡ components v e at + m
components-more_vertices v m e at placed =
    count_add v m (λ x. eqb (labels (ends_upto at e) x) x)
    ∙ ap (λ (k : ℕ). components v e at + k) (count_all m (λ x. eqb (labels (ends_upto at e) (v + x)) (v + x)) (λ x lt. eq-eqb (labels (ends_upto at e) (v + x)) (v + x) (label_outside v e at placed (v + x) (omega arith))))
