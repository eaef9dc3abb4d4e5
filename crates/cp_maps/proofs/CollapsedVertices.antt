-- Lists that are connected among each other made one vertex.
use Rattle.std.proofs.Common.{◌≡◌, ℕ, List, [], ◌∷◌, ◌++◌, append_assoc, sym, refl, ap, ◌∙◌, subst, ⊎_elim, ◌*◌}
use Rattle.std.proofs.lemmas.List.{append-nil}
use Rattle.cp_lists.specs.CyclicLists.{Distinct, Has, Lacks}
use Rattle.cp_lists.specs.Rows.{flat}
use Rattle.cp_lists.proofs.DistinctLists.{Distinct-apart, Distinct-append_right, Has-append_cases, Has-append_left, Has-append_right, Lacks-append_left, Lacks-append_right, Lacks-from, has_lacks}
use Rattle.cp_lists.proofs.TurnedLists.{turn_parts}
use Rattle.cp_faces.specs.Twins.{twin}
use Rattle.cp_faces.proofs.Twins.{twin-twin}
use Rattle.cp_maps.specs.Genus.{Becomes}
use Rattle.cp_maps.specs.Gluings.{Grows, HoldsLeaving}
use Rattle.cp_maps.specs.Maps.{IsMapOf}
use Rattle.cp_maps.proofs.ContractedEdges.{contracted_edge-Becomes}
use Rattle.cp_maps.proofs.Genus.{SameGenus-trans}
use Rattle.cp_maps.proofs.ListFacts.{from_dart, its_item, other_item}
use Rattle.cp_maps.proofs.MapLists.{IsMapOf-swap, IsMapOf-turn}

-- lists that grow from one made one with it: the genus stays, and what leads out is held
pub collapsed-Becomes : (e : ℕ) (f : ℕ → ℕ) (zs all : List ℕ) (group rows : List (List ℕ))
    → IsMapOf (2 * e) f (zs ∷ (group ++ rows)) → HoldsLeaving zs all → ((d : ℕ) → Has d all → Lacks d (flat group))
    → Distinct (flat group) → Grows all group
    → (ws : List ℕ) × Becomes e f (ws ∷ rows) × HoldsLeaving ws (all ++ flat group)
collapsed-Becomes e f zs all [] rows is holds apart dis grows =
    (zs, (f, is, refl), subst (HoldsLeaving zs) (sym (append-nil all)) holds)
collapsed-Becomes e f zs all (ys ∷ group) rows is holds apart dis grows =
    let x : ℕ = grows.0.0 in
    let far : Lacks (twin x) all =
    Lacks-from (twin x) all (λ h. has_lacks (twin x) ys grows.0.2
    (Lacks-append_left (twin x) ys (flat group) (apart (twin x) h))) in
    let a : (us : List ℕ) × (vs : List ℕ) × (zs ≡ us ++ x ∷ vs) = from_dart x zs (holds.outward x grows.0.1 far) in
    let b : (us : List ℕ) × (vs : List ℕ) × (ys ≡ us ++ twin x ∷ vs) = from_dart (twin x) ys grows.0.2 in
    let front : List ℕ = a.1 ++ a.0 in
    let back : List ℕ = b.1 ++ b.0 in
    let others : List (List ℕ) = group ++ rows in
    let is_x : IsMapOf (2 * e) f ((x ∷ front) ∷ ys ∷ others) =
    IsMapOf-turn (2 * e) f (a.0 ++ x ∷ a.1) (x ∷ front) (ys ∷ others) (turn_parts a.0 (x ∷ a.1))
    (subst (λ us. IsMapOf (2 * e) f (us ∷ ys ∷ others)) a.2 is) in
    let is_both : IsMapOf (2 * e) f ((x ∷ front) ∷ (twin x ∷ back) ∷ others) =
    IsMapOf-swap (2 * e) f (twin x ∷ back) (x ∷ front) others
    (IsMapOf-turn (2 * e) f (b.0 ++ twin x ∷ b.1) (twin x ∷ back) ((x ∷ front) ∷ others) (turn_parts b.0 (twin x ∷ b.1))
    (subst (λ us. IsMapOf (2 * e) f (us ∷ (x ∷ front) ∷ others)) b.2
    (IsMapOf-swap (2 * e) f (x ∷ front) ys others is_x))) in
    let one : Becomes e f ((front ++ back) ∷ others) = contracted_edge-Becomes e f x front back others is_both in
    let held : HoldsLeaving (front ++ back) (all ++ ys) = record {
      within = λ d h. ⊎_elim
          (λ k. Has-append_left d all ys (holds.within d (its_item d x zs a.0 a.1 a.2 k)))
          (λ k. Has-append_right d all ys (its_item d (twin x) ys b.0 b.1 b.2 k))
          (Has-append_cases d front back h);
      outward = λ d h l. ⊎_elim
          (λ k. ⊎_elim
          (λ s. absurd (has_lacks (twin d) ys (subst (λ y. Has (twin y) ys) s grows.0.2)
          (Lacks-append_right (twin d) all ys l)))
          (λ m. Has-append_left d front back m)
          (other_item d x zs a.0 a.1 a.2 (holds.outward d k (Lacks-append_left (twin d) all ys l))))
          (λ k. ⊎_elim
          (λ s. absurd (has_lacks (twin d) all (subst (λ y. Has y all) (sym (twin-twin x) ∙ ap twin s) grows.0.1)
          (Lacks-append_left (twin d) all ys l)))
          (λ m. Has-append_right d front back m)
          (other_item d (twin x) ys b.0 b.1 b.2 k))
          (Has-append_cases d all ys h);
    } in
    let rest : (ws : List ℕ) × Becomes e one.0 (ws ∷ rows) × HoldsLeaving ws ((all ++ ys) ++ flat group) =
    collapsed-Becomes e one.0 (front ++ back) (all ++ ys) group rows one.1 held
    (λ d h. ⊎_elim (λ k. Lacks-append_right d ys (flat group) (apart d k))
    (λ k. Distinct-apart d ys (flat group) dis k) (Has-append_cases d all ys h))
    (Distinct-append_right ys (flat group) dis) grows.1 in (
      rest.0,
      (rest.1.0, rest.1.1, SameGenus-trans e f one.0 rest.1.0 one.2 rest.1.2),
      subst (HoldsLeaving rest.0)
          (append_assoc all ys (flat group)) rest.2,
    )
