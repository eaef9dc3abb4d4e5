-- Two vertices are not joined crosswise to a third in a flat map.
use Rattle.std.proofs.Common.{ℕ, ◌<◌, ◌≢◌, List, [], ◌∷◌, ◌++◌, append_assoc, sym, refl, ap, ◌∙◌, subst, inl, inr, ⊎_elim, ◌*◌}
use Rattle.cp_lists.specs.CyclicLists.{Has}
use Rattle.cp_lists.specs.Rows.{flat}
use Rattle.cp_lists.proofs.TurnedLists.{turn_parts}
use Rattle.cp_orbits.specs.Orbits.{Permutes}
use Rattle.cp_faces.specs.Twins.{twin}
use Rattle.cp_faces.proofs.Twins.{twin-twin}
use Rattle.cp_maps.specs.Genus.{Becomes, CanBeFlat, IsFlat}
use Rattle.cp_maps.specs.Maps.{IsMapOf, next_by}
use Rattle.cp_maps.proofs.ContractedEdges.{contracted_edge-Becomes}
use Rattle.cp_maps.proofs.CutLoops.{cut_loop-Apart}
use Rattle.cp_maps.proofs.Edges.{twin-OnePart}
use Rattle.cp_maps.proofs.FewerDarts.{next_kept-CanBeFlat, swapped_lists-CanBeFlat, third_list-CanBeFlat, two_kept-CanBeFlat}
use Rattle.cp_maps.proofs.Genus.{SameGenus-IsFlat}
use Rattle.cp_lists.proofs.DistinctLists.{Distinct-less}
use Rattle.cp_maps.proofs.MapLists.{IsMapOf-Permutes, IsMapOf-some, IsMapOf-third, IsMapOf-turn, one_vertex}
use Rattle.cp_maps.proofs.Swaps.{vertex-OnePart}

-- four darts at a vertex that two others join crosswise
crossed_four : (e : ℕ) (f : ℕ → ℕ) (a b c d : ℕ) (rows : List (List ℕ))
    → IsMapOf (2 * e) f ((a ∷ b ∷ c ∷ d ∷ []) ∷ (twin a ∷ twin c ∷ []) ∷ (twin b ∷ twin d ∷ []) ∷ rows) → IsFlat e f → ⊥
crossed_four e f a b c d rows is z =
    let others : List (List ℕ) = (twin b ∷ twin d ∷ []) ∷ rows in
    let h : Becomes e f ((b ∷ c ∷ d ∷ twin c ∷ []) ∷ others) =
    contracted_edge-Becomes e f a (b ∷ c ∷ d ∷ []) (twin c ∷ []) others is in
    let is_h : IsMapOf (2 * e) h.0 ((c ∷ d ∷ twin c ∷ b ∷ []) ∷ others) =
    IsMapOf-turn (2 * e) h.0 (b ∷ c ∷ d ∷ twin c ∷ []) (c ∷ d ∷ twin c ∷ b ∷ []) others
    (turn_parts (b ∷ []) (c ∷ d ∷ twin c ∷ [])) h.1 in
    let less : List (List ℕ) = (d ∷ []) ∷ (b ∷ []) ∷ others in
    let g : ℕ → ℕ = next_by less in
    let is_g : IsMapOf (2 * e) g less = IsMapOf-some (2 * e) h.0 ((c ∷ d ∷ twin c ∷ b ∷ []) ∷ others) less is_h
    (Distinct-less (d ∷ []) (twin c) (b ∷ flat others) is_h.once.1)
    (λ y k. inr (⊎_elim (λ l. inl l) (λ l. inr (inr l)) k)) in
    let perm : Permutes (2 * e) g = IsMapOf-Permutes (2 * e) g less is_g in
    let ltd : d < 2 * e = is_g.below.0 in
    let ltb : b < 2 * e = is_g.below.1.0 in
    let is_m : IsMapOf (2 * e) g ((twin b ∷ twin d ∷ []) ∷ (d ∷ []) ∷ (b ∷ []) ∷ rows) =
    IsMapOf-third (2 * e) g (d ∷ []) (b ∷ []) (twin b ∷ twin d ∷ []) rows is_g in
    cut_loop-Apart e h.0 g c (d ∷ []) (b ∷ []) others is_h is_g (SameGenus-IsFlat e f h.0 h.2 z) d b (inl refl)
    (inl refl)
    (sym (twin-OnePart e g perm d ltd)
    ∙ vertex-OnePart e g perm d b ltd ltb (twin d) (twin b)
    (one_vertex (2 * e) g (twin b ∷ twin d ∷ []) ((d ∷ []) ∷ (b ∷ []) ∷ rows) is_m (twin d) (twin b) (inr (inl refl))
    (inl refl))
    ∙ twin-OnePart e g perm b ltb)

-- in a flat map two vertices are not joined crosswise to a third
pub flat-no_crossing : (e : ℕ) (f : ℕ → ℕ) (a b c d : ℕ) (ps bs cs ds ks ms : List ℕ) (rows : List (List ℕ))
    → IsMapOf (2 * e) f ((a ∷ (ps ++ b ∷ (bs ++ c ∷ (cs ++ d ∷ ds)))) ∷ ks ∷ ms ∷ rows) → Has (twin a) ks
    → Has (twin c) ks → Has (twin b) ms → Has (twin d) ms → a ≢ c → b ≢ d → IsFlat e f → ⊥
flat-no_crossing e f a b c d ps bs cs ds ks ms rows is ka kc mb md ac bd z =
    let others : List (List ℕ) = ks ∷ ms ∷ rows in
    let one : CanBeFlat e ((b ∷ ((bs ++ c ∷ (cs ++ d ∷ ds)) ++ a ∷ [])) ∷ others) =
    next_kept-CanBeFlat e a ps (b ∷ (bs ++ c ∷ (cs ++ d ∷ ds))) others (f, is, z) in
    let two : CanBeFlat e ((c ∷ (((cs ++ d ∷ ds) ++ a ∷ []) ++ b ∷ [])) ∷ others) =
    next_kept-CanBeFlat e b bs (c ∷ ((cs ++ d ∷ ds) ++ a ∷ [])) others
    (subst (λ ws. CanBeFlat e ((b ∷ ws) ∷ others)) (append_assoc bs (c ∷ (cs ++ d ∷ ds)) (a ∷ [])) one) in
    let three_exchanges : CanBeFlat e ((d ∷ (((ds ++ a ∷ []) ++ b ∷ []) ++ c ∷ [])) ∷ others) =
    next_kept-CanBeFlat e c cs (d ∷ ((ds ++ a ∷ []) ++ b ∷ [])) others
    (subst (λ ws. CanBeFlat e ((c ∷ ws) ∷ others))
    (ap (λ ws. ws ++ b ∷ []) (append_assoc cs (d ∷ ds) (a ∷ [])) ∙ append_assoc cs (d ∷ (ds ++ a ∷ [])) (b ∷ [])) two)
    in
    let four : CanBeFlat e ((a ∷ b ∷ c ∷ d ∷ []) ∷ others) = next_kept-CanBeFlat e d ds (a ∷ b ∷ c ∷ []) others
    (subst (λ ws. CanBeFlat e ((d ∷ ws) ∷ others))
    (ap (λ ws. ws ++ c ∷ []) (append_assoc ds (a ∷ []) (b ∷ []))
    ∙ append_assoc ds (a ∷ b ∷ []) (c ∷ [])) three_exchanges) in
    let row : List ℕ = a ∷ b ∷ c ∷ d ∷ [] in
    let five : CanBeFlat e ((twin a ∷ twin c ∷ []) ∷ row ∷ ms ∷ rows) =
    two_kept-CanBeFlat e (twin a) (twin c) ks (row ∷ ms ∷ rows)
    (λ h. ac (sym (twin-twin a) ∙ ap twin h ∙ twin-twin c)) ka kc (swapped_lists-CanBeFlat e row ks (ms ∷ rows) four) in
    let six : CanBeFlat e ((twin b ∷ twin d ∷ []) ∷ (twin a ∷ twin c ∷ []) ∷ row ∷ rows) =
    two_kept-CanBeFlat e (twin b) (twin d) ms ((twin a ∷ twin c ∷ []) ∷ row ∷ rows)
    (λ h. bd (sym (twin-twin b) ∙ ap twin h ∙ twin-twin d)) mb md
    (third_list-CanBeFlat e (twin a ∷ twin c ∷ []) row ms rows five) in
    let last : CanBeFlat e (row ∷ (twin a ∷ twin c ∷ []) ∷ (twin b ∷ twin d ∷ []) ∷ rows) =
    swapped_lists-CanBeFlat e (twin a ∷ twin c ∷ []) row ((twin b ∷ twin d ∷ []) ∷ rows)
    (third_list-CanBeFlat e row (twin b ∷ twin d ∷ []) (twin a ∷ twin c ∷ []) rows
    (third_list-CanBeFlat e (twin b ∷ twin d ∷ []) (twin a ∷ twin c ∷ []) row rows six)) in
    crossed_four e last.0 a b c d rows last.1 last.2
