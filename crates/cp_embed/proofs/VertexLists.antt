-- Lists of all vertices of a map of darts, under their names, and the lists of a sweep.
use Rattle.std.proofs.Common.{◌≡◌, ◌≢◌, ℕ, ◌<◌, ◌↔◌, Bool, Option, List, [], ◌∷◌, ◌++◌, map, reverse, eqb, cond, sym, refl, ap, ◌∙◌, subst, inl, inr, ⊎_elim}
use Rattle.std.proofs.lemmas.Bool.{eq-eqb, ne_eqb}
use Rattle.std.proofs.lemmas.List.{map-append}
use Rattle.cp_lists.specs.CyclicLists.{Has, Distinct, follow}
use Rattle.cp_lists.specs.Rows.{flat}
use Rattle.cp_lists.proofs.DistinctLists.{has_lacks, Lacks-from, Has-append_cases, Distinct-append}
use Rattle.cp_lists.proofs.ReversedLists.{reverse-cons, reverse-Has}
use Rattle.cp_maps.specs.Maps.{IsMapOf, Rings}
use Rattle.cp_maps.proofs.ListFacts.{Below-from, map-agree}
use Rattle.cp_maps.proofs.NamedLists.{named_item}
use Rattle.cp_rot.proofs.ListSystems.{Listed, turn}
use Rattle.cp_embed.specs.Arrangements.{IsArrangementOf}
use Rattle.cp_embed.specs.Sweeps.{darts_at, ins_of, outs_of, KeepsList, AreListsOf, IsSweep}
use Rattle.cp_embed.proofs.Arrangements.{IsArrangementOf-items}
use Rattle.cp_embed.proofs.DartLists.{darts_at-Has, ins_outs-Has}

-- an item of the lists of some vertices stands at one of them
item_of_names : (n m : ℕ) (at : ℕ → ℕ) (lists : ℕ → List ℕ) → Listed n m at lists → (names : List ℕ)
    → ((v : ℕ) → Has v names → v < n) → (d : ℕ) → Has d (flat (map lists names)) → (d < m) × Has (at d) names
item_of_names n m at lists l [] small d h = absurd h
item_of_names n m at lists l (v ∷ names) small d h = ⊎_elim
    (λ k. let w = l.item v d (small v (inl refl)) k in (w.0, inl (sym w.1)))
    (λ k. let w = item_of_names n m at lists l names (λ u hu. small u (inr hu)) d k in (w.0, inr w.1))
    (Has-append_cases d (lists v) (flat (map lists names)) h)

-- none of them stands twice
names-Distinct : (n m : ℕ) (at : ℕ → ℕ) (lists : ℕ → List ℕ) → Listed n m at lists → (names : List ℕ)
    → ((v : ℕ) → Has v names → v < n) → Distinct names → Distinct (flat (map lists names))
names-Distinct n m at lists l [] small once = tt
names-Distinct n m at lists l (v ∷ names) small once =
    Distinct-append (lists v) (flat (map lists names)) (l.distinct v (small v (inl refl)))
    (names-Distinct n m at lists l names (λ u hu. small u (inr hu)) once.1)
    (λ d h. Lacks-from d (flat (map lists names)) (λ k.
    has_lacks v names
    (subst (λ y. Has y names) (l.item v d (small v (inl refl)) h).1
    (item_of_names n m at lists l names (λ u hu. small u (inr hu)) d k).1)
    once.0))

-- the lists are rings
names-Rings : (n m : ℕ) (at : ℕ → ℕ) (lists : ℕ → List ℕ) → Listed n m at lists → (names : List ℕ)
    → ((v : ℕ) → Has v names → v < n) → Rings (turn at lists) (map lists names)
names-Rings n m at lists l [] small = tt
names-Rings n m at lists l (v ∷ names) small = (
  record {
    distinct = l.distinct v (small v (inl refl));
    along = λ d h. ap (λ x. follow (lists x) d) (l.item v d (small v (inl refl)) h).1;
  },
  names-Rings n m at lists l names (λ u hu. small u (inr hu)),
)

-- the function that leads each dart to the next in the list of its vertex is the map of the lists of all vertices, in
-- whatever order these are named
pub IsMapOf-names : (n m : ℕ) (at : ℕ → ℕ) (lists : ℕ → List ℕ) → Listed n m at lists → (names : List ℕ)
    → Distinct names → ((v : ℕ) → Has v names ↔ (v < n)) → IsMapOf m (turn at lists) (map lists names)
IsMapOf-names n m at lists l names once all = record {
  once = names-Distinct n m at lists l names (λ v. (all v).0) once;
  below = Below-from m (flat (map lists names)) (λ d h. (item_of_names n m at lists l names (λ v. (all v).0) d h).0);
  rings = names-Rings n m at lists l names (λ v. (all v).0);
  loose = λ d lt lacks. absurd (has_lacks d (flat (map lists names))
      (named_item lists names (at d) d ((all (at d)).1 (l.placed d lt)) (l.own d lt)) lacks);
}

module _ (at : ℕ → ℕ) (e r : ℕ) (psi : ℕ → Option (List ℕ)) (bit : ℕ → Bool) where
  -- the lists of the vertices that are taken, in the order in which they were taken, under the names of the vertices
  pub AreListsOf-names : (taken : List ℕ) (zs : List ℕ) (group : List (List ℕ)) → IsSweep at e r taken
      → AreListsOf at e psi bit taken zs group
      → (lists : ℕ → List ℕ) × (zs ∷ group ≡ map lists (reverse taken))
      × ((v : ℕ) → Has v taken → IsArrangementOf (lists v) (darts_at at e v) × KeepsList psi bit v (lists v))
  AreListsOf-names [] zs group sweep p = absurd sweep
  AreListsOf-names (s ∷ []) zs group sweep p = (
    λ v. zs,
    ap (λ gs. zs ∷ gs) p.0,
    λ v h. ⊎_elim (λ k. subst (λ y. IsArrangementOf zs (darts_at at e y) × KeepsList psi bit y zs) k (p.1, p.2))
        (λ k. absurd k) h,
  )
  AreListsOf-names (x ∷ y ∷ taken) zs group sweep p =
      let w = AreListsOf-names (y ∷ taken) zs p.0 sweep.1 p.3 in
      let row : List ℕ = p.1 in
      let lists : ℕ → List ℕ = λ v. cond (eqb v x) row (w.0 v) in
      let at_x : (v : ℕ) → v ≡ x → lists v ≡ row = λ v h. ap (λ b. cond b row (w.0 v)) (eq-eqb v x h) in
      let at_other : (v : ℕ) → v ≢ x → lists v ≡ w.0 v = λ v h. ap (λ b. cond b row (w.0 v)) (ne_eqb v x h) in
      let other : (v : ℕ) → Has v (y ∷ taken) → v ≢ x =
      λ v h same. has_lacks x (y ∷ taken) (subst (λ u. Has u (y ∷ taken)) same h) sweep.0.new in (
        lists,
        ap (λ gs. zs ∷ gs) p.2
            ∙ ap (λ rows. rows ++ row ∷ []) (w.1 ∙ map-agree w.0 lists (reverse (y ∷ taken))
            (λ v h. sym (at_other v (other v (reverse-Has v (y ∷ taken) h)))))
            ∙ ap (λ z. map lists (reverse (y ∷ taken)) ++ z ∷ []) (sym (at_x x refl))
            ∙ sym (map-append lists (reverse (y ∷ taken)) (x ∷ []))
            ∙ ap (map lists) (sym (reverse-cons x (y ∷ taken))),
        λ v h. ⊎_elim
            (λ k. subst (λ ws. IsArrangementOf ws (darts_at at e v) × KeepsList psi bit v ws) (sym (at_x v (sym k)))
            (subst (λ u. IsArrangementOf row (darts_at at e u) × KeepsList psi bit u row) k (
              IsArrangementOf-items row (ins_of at e (y ∷ taken) x ++ outs_of at e (y ∷ taken) x) (darts_at at e x) p.4
                  (λ d. (
                    λ m. (darts_at-Has at e d x).1 ((ins_outs-Has at e (y ∷ taken) x d).0 m),
                    λ m. (ins_outs-Has at e (y ∷ taken) x d).1 ((darts_at-Has at e d x).0 m),
                  )),
              p.5,
            )))
            (λ k. subst (λ ws. IsArrangementOf ws (darts_at at e v) × KeepsList psi bit v ws)
            (sym (at_other v (other v k))) (w.2 v k))
            h,
      )

  -- lists under the names of the vertices are lists of the vertices that are taken, in the order in which they were
  -- taken
  pub names-AreListsOf : (lists : ℕ → List ℕ) (taken : List ℕ) → IsSweep at e r taken
      → ((v : ℕ) → Has v taken → IsArrangementOf (lists v) (darts_at at e v) × KeepsList psi bit v (lists v))
      → (zs : List ℕ) × (group : List (List ℕ)) × (zs ∷ group ≡ map lists (reverse taken))
      × AreListsOf at e psi bit taken zs group
  names-AreListsOf lists [] sweep each = absurd sweep
  names-AreListsOf lists (s ∷ []) sweep each =
      (lists s, [], refl, (refl, (each s (inl refl)).0, (each s (inl refl)).1))
  names-AreListsOf lists (x ∷ y ∷ taken) sweep each =
      let w = names-AreListsOf lists (y ∷ taken) sweep.1 (λ v h. each v (inr h)) in
      let of_x = each x (inl refl) in (
        w.0,
        w.1 ++ lists x ∷ [],
        ap (λ rows. rows ++ lists x ∷ []) w.2
            ∙ sym (map-append lists (reverse (y ∷ taken)) (x ∷ []))
            ∙ ap (map lists) (sym (reverse-cons x (y ∷ taken))),
        (
          w.1,
          lists x,
          refl,
          w.3,
          IsArrangementOf-items (lists x) (darts_at at e x) (ins_of at e (y ∷ taken) x ++ outs_of at e (y ∷ taken) x)
              of_x.0
              (λ d. (
                λ m. (ins_outs-Has at e (y ∷ taken) x d).1 ((darts_at-Has at e d x).0 m),
                λ m. (darts_at-Has at e d x).1 ((ins_outs-Has at e (y ∷ taken) x d).0 m),
              )),
          of_x.1,
        ),
      )
