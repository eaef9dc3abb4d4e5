-- What one of three vertices sees of the two others.
use Rattle.std.proofs.Common.{◌≡◌, ℕ, ◌*◌, Bool, ◌||◌, List, [], ◌∷◌, ◌++◌, map, append_assoc, sym, refl, ap, ap₂, ◌∙◌, subst, inl, inr, ⊎_elim, arith}
use Rattle.std.specs.List.{filter}
use Rattle.cp_lists.specs.CyclicLists.{Has, Lacks}
use Rattle.cp_lists.specs.Turns.{IsTurn}
use Rattle.cp_lists.proofs.DistinctLists.{Distinct-apart, Distinct-append, Distinct-append_left, Distinct-append_right, Has-append_cases, Has-append_left, Has-append_right, Lacks-append_left, has_lacks}
use Rattle.cp_lists.proofs.FilteredLists.{Has-filter, filter-Distinct, filter-Has, filter_agree, filter_all}
use Rattle.cp_lists.proofs.TurnedLists.{turn_parts}
use Rattle.cp_faces.specs.Twins.{twin}
use Rattle.cp_faces.proofs.Twins.{twin-twin}
use Rattle.cp_maps.specs.Genus.{Becomes, IsFlat}
use Rattle.cp_maps.specs.Maps.{IsMapOf, has, next_by}
use Rattle.cp_maps.specs.Mirrors.{mirror}
use Rattle.cp_maps.proofs.ContractedEdges.{contracted_edge-Becomes}
use Rattle.cp_maps.proofs.Dipoles.{flat_dipole-mirror}
use Rattle.cp_maps.proofs.Genus.{SameGenus-IsFlat}
use Rattle.cp_maps.proofs.KeptDarts.{kept_darts-IsFlat}
use Rattle.cp_maps.proofs.ListFacts.{from_dart, has_no, has_true, has_yes, its_item, other_item}
use Rattle.cp_maps.proofs.MapLists.{IsMapOf-some, IsMapOf-turn}
use Rattle.cp_embed.proofs.Lists.{filter_none, mirror-append}

-- a list whose twins stand at two vertices that an edge joins: it is what these read, one behind the other, in reverse
pub seen_vertex-IsTurn : (e : ℕ) (f : ℕ → ℕ) (p : ℕ) (ps qs zs : List ℕ)
    → IsMapOf (2 * e) f ((p ∷ ps) ∷ (twin p ∷ qs) ∷ zs ∷ []) → ((d : ℕ) → Has d zs → Has (twin d) (ps ++ qs))
    → IsFlat e f → IsTurn zs (mirror (filter (λ d. has (twin d) zs) (ps ++ qs)))
seen_vertex-IsTurn e f p ps qs [] is back flat_f =
    (0, omega arith, ap mirror (filter_none (λ d. has (twin d) []) (ps ++ qs) (λ d h. refl)))
seen_vertex-IsTurn e f p ps qs (z ∷ zs) is back flat_f = subst (IsTurn (z ∷ zs)) (sym reads)
    (subst (λ ws. IsTurn (z ∷ ws) (mirror s.1 ++ z ∷ mirror s.0)) (sym (same ∙ mirror-append s.1 s.0))
    (turn_parts (z ∷ mirror s.0) (mirror s.1)))
  where
    row : List ℕ
    row = z ∷ zs

    test : ℕ → Bool
    test d = has (twin d) row

    keep : ℕ → Bool
    keep d = has d row || has (twin d) row

    kept : List ℕ
    kept = filter test (ps ++ qs)

    one : Becomes e f ((ps ++ qs) ∷ row ∷ [])
    one = contracted_edge-Becomes e f p ps qs (row ∷ []) is

    apart : (d : ℕ) → Has d (ps ++ qs) → Lacks d row
    apart d h = Lacks-append_left d row [] (Distinct-apart d (ps ++ qs) (row ++ []) one.1.once h)

    less : List (List ℕ)
    less = kept ∷ row ∷ []

    g : ℕ → ℕ
    g = next_by less

    is_g : IsMapOf (2 * e) g less
    is_g = IsMapOf-some (2 * e) one.0 ((ps ++ qs) ∷ row ∷ []) less one.1
        (Distinct-append kept (row ++ [])
        (filter-Distinct test (ps ++ qs) (Distinct-append_left (ps ++ qs) (row ++ []) one.1.once))
        (Distinct-append_right (ps ++ qs) (row ++ []) one.1.once)
        (λ d h. Distinct-apart d (ps ++ qs) (row ++ []) one.1.once (filter-Has test d (ps ++ qs) h).0))
        (λ d h. ⊎_elim (λ k. Has-append_left d (ps ++ qs) (row ++ []) (filter-Has test d (ps ++ qs) k).0)
        (λ k. Has-append_right d (ps ++ qs) (row ++ []) k) (Has-append_cases d kept (row ++ []) h))

    alike : map (filter keep) ((ps ++ qs) ∷ row ∷ []) ≡ less
    alike = ap₂ (λ us vs. us ∷ vs ∷ [])
        (filter_agree keep test (ps ++ qs) (λ d h. ap (λ b. b || has (twin d) row) (has_no d row (apart d h))))
        (filter_all keep row (λ d h. ap (λ b. b || has (twin d) row) (has_yes d row h)))

    flat_g : IsFlat e g
    flat_g = kept_darts-IsFlat e one.0 ((ps ++ qs) ∷ row ∷ []) one.1 (SameGenus-IsFlat e f one.0 one.2 flat_f) keep g
        (subst (IsMapOf (2 * e) g) (sym alike) is_g)

    found : (d : ℕ) → Has d row → Has (twin d) kept
    found d h = Has-filter test (twin d) (ps ++ qs) (back d h)
        (has_yes (twin (twin d)) row (subst (λ y. Has y row) (sym (twin-twin d)) h))

    s : (us : List ℕ) × (vs : List ℕ) × (kept ≡ us ++ twin z ∷ vs)
    s = from_dart (twin z) kept (found z (inl refl))

    around : List ℕ
    around = s.1 ++ s.0

    is_d : IsMapOf (2 * e) g ((twin z ∷ around) ∷ (twin (twin z) ∷ zs) ∷ [])
    is_d = subst (λ y. IsMapOf (2 * e) g ((twin z ∷ around) ∷ (y ∷ zs) ∷ [])) (sym (twin-twin z))
        (IsMapOf-turn (2 * e) g (s.0 ++ twin z ∷ s.1) (twin z ∷ around) (row ∷ []) (turn_parts s.0 (twin z ∷ s.1))
        (subst (λ ws. IsMapOf (2 * e) g (ws ∷ row ∷ [])) s.2 is_g))

    same : zs ≡ mirror around
    same = flat_dipole-mirror e g (twin z) around zs is_d
        (λ d h. ⊎_elim
        (λ k. absurd (has_lacks (twin z) around (subst (λ y. Has y around) (sym (twin-twin d) ∙ ap twin (sym k)) h)
        (Lacks-append_left (twin z) around ((twin (twin z) ∷ zs) ++ []) is_d.once.0)))
        (λ k. k)
        (has_true (twin d) row (filter-Has test d (ps ++ qs) (its_item d (twin z) kept s.0 s.1 s.2 h)).1))
        (λ d h. ⊎_elim
        (λ k. absurd (has_lacks z zs (subst (λ y. Has y zs) (sym (twin-twin d) ∙ ap twin (sym k) ∙ twin-twin z) h)
        is_g.rings.1.0.distinct.0))
        (λ k. k)
        (other_item (twin d) (twin z) kept s.0 s.1 s.2 (found d (inr h))))
        flat_g

    reads : mirror kept ≡ mirror s.1 ++ z ∷ mirror s.0
    reads = ap mirror s.2 ∙ mirror-append s.0 (twin z ∷ s.1)
        ∙ ap (λ ws. ws ++ mirror s.0) (mirror-append (twin z ∷ []) s.1)
        ∙ append_assoc (mirror s.1) (twin (twin z) ∷ []) (mirror s.0)
        ∙ ap (λ y. mirror s.1 ++ y ∷ mirror s.0) (twin-twin z)
