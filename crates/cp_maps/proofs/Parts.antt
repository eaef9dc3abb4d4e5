-- How to show that two darts are of two components: by a test.
use Rattle.std.proofs.Common.{◌≡◌, ℕ, ◌<◌, ◌≢◌, List, [], ◌∷◌, sym, ap, ◌∙◌, subst, ⊎_elim, ◌*◌, Bool, arith, ◌%◌}
use Rattle.cp_lists.specs.CyclicLists.{Has}
use Rattle.cp_lists.specs.Rows.{flat}
use Rattle.cp_lists.proofs.CyclicLists.{follow-Has}
use Rattle.cp_lists.proofs.DistinctLists.{Has-append_cases, has_cases}
use Rattle.cp_lists.proofs.FollowedLists.{iterate_in_list}
use Rattle.cp_orbits.specs.Orbits.{Permutes}
use Rattle.cp_orbits.proofs.ClassLabels.{same_labels}
use Rattle.cp_orbits.proofs.ListOrbits.{follow-reaches}
use Rattle.cp_orbits.proofs.OrbitLaws.{Respects-graph, labels_reached}
use Rattle.cp_faces.specs.Twins.{twin}
use Rattle.cp_faces.proofs.Twins.{twin_even}
use Rattle.cp_maps.specs.Genus.{Evenly, OnePart, linked}
use Rattle.cp_maps.specs.Maps.{IsMapOf, Ring, Rings}
use Rattle.cp_maps.proofs.FlatMaps.{linked-from}
use Rattle.cp_maps.proofs.Swaps.{vertex-OnePart}

-- so it has one value on a dart and the one behind
evenly_step : (f : ℕ → ℕ) (p : ℕ → Bool) (rows : List (List ℕ)) (d : ℕ) → Rings f rows → Evenly p rows
    → Has d (flat rows) → p d ≡ p (f d)
evenly_step f p [] d rings even h = absurd h
evenly_step f p (xs ∷ rows) d rings even h = ⊎_elim
    (λ k. even.0 d (f d) k (subst (λ y. Has y xs) (sym (rings.0.along d k)) (follow-Has d xs k)))
    (λ k. evenly_step f p rows d rings.1 even.1 k)
    (Has-append_cases d xs (flat rows) h)

-- a test that has one value on each list and on twins, and two at two darts: they are of two components
pub Evenly-two_parts : (e : ℕ) (f : ℕ → ℕ) (rows : List (List ℕ)) (p : ℕ → Bool) (a b : ℕ) → IsMapOf (2 * e) f rows
    → Evenly p rows → ((d : ℕ) → d < 2 * e → p d ≡ p (twin d)) → p a ≢ p b → OnePart e f a b → ⊥
Evenly-two_parts e f rows p a b is even twins differ one =
    differ (same_labels p (linked f (2 * e) e) a b (linked-from p f (2 * e) e
    (Respects-graph p f (2 * e) (λ d lt. ⊎_elim (evenly_step f p rows d is.rings even)
    (λ l. ap p (sym (is.loose d lt l))) (has_cases d (flat rows))))
    (λ k lt. let even_k : 2 * k % 2 ≡ 0 = omega arith in
    twins (2 * k) (omega arith) ∙ ap p (twin_even (2 * k) even_k))) one)

-- two darts of a ring are of one component
pub Ring-OnePart : (e : ℕ) (f : ℕ → ℕ) → Permutes (2 * e) f → (xs : List ℕ) → Ring f xs
    → ((d : ℕ) → Has d xs → d < 2 * e) → (a b : ℕ) → Has a xs → Has b xs → OnePart e f a b
Ring-OnePart e f perm xs ring below a b ha hb =
    let r = follow-reaches xs a b ring.distinct ha hb in
    let lt : a < 2 * e = below a ha in
    vertex-OnePart e f perm a a lt lt a b
    (labels_reached (2 * e) f perm a b lt (r.0, iterate_in_list xs f ring.along r.0 a ha ∙ r.1))
