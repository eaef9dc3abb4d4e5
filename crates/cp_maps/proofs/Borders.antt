-- A border taken away, or put in.
use Rattle.std.proofs.Common.{◌≡◌, ℕ, List, [], ◌∷◌, ◌++◌, append_assoc, sym, refl, ap, ◌∙◌, subst, ◌*◌, map}
use Rattle.std.proofs.lemmas.List.{append-nil, reverse-append}
use Rattle.cp_lists.specs.CyclicLists.{Distinct}
use Rattle.cp_lists.specs.Rows.{flat}
use Rattle.cp_lists.proofs.TurnedLists.{turn_parts}
use Rattle.cp_faces.specs.Twins.{twin}
use Rattle.cp_maps.specs.Borders.{Place, border_lists, closed_border, inside_darts, last_begin, outside_darts}
use Rattle.cp_maps.specs.Genus.{Apart, Becomes, CanBeFlat, IsFlat, SameGenus}
use Rattle.cp_maps.specs.Maps.{Below, IsMapOf, next_by}
use Rattle.cp_maps.proofs.ContractedEdges.{contracted_edge-Becomes}
use Rattle.cp_maps.proofs.CutLoops.{cut_loop-Apart, cut_loop-CanBeFlat, cut_loop-SameGenus}
use Rattle.cp_maps.proofs.Genus.{SameGenus-IsFlat, SameGenus-sym, SameGenus-trans}
use Rattle.cp_maps.proofs.MapLists.{IsMapOf-by, IsMapOf-swap, IsMapOf-turn}

-- the darts inside, with one more
inside-cons : (q : Place) (qs : List Place) (is : List ℕ)
    → inside_darts (q ∷ qs) ++ is ≡ inside_darts qs ++ q.inside ∷ is
inside-cons q qs is = ap (λ zs. zs ++ is) (reverse-append (q.inside ∷ []) (map (λ p. p.inside) qs))
    ∙ append_assoc (inside_darts qs) (q.inside ∷ []) is

-- a border some of whose edges are contracted
border_rest-SameGenus : (e : ℕ) (f g : ℕ → ℕ) (s t : ℕ) (is os : List ℕ) (qs : List Place) (rows : List (List ℕ))
    → t ≡ twin (last_begin s qs) → IsMapOf (2 * e) f ((s ∷ (is ++ t ∷ os)) ∷ (border_lists (twin s) qs ++ rows))
    → IsMapOf (2 * e) g ((inside_darts qs ++ is) ∷ (os ++ outside_darts qs) ∷ rows)
    → Apart e g (inside_darts qs ++ is) (os ++ outside_darts qs) → SameGenus e g f
border_rest-SameGenus e f g s t is os [] rows last is_f is_g apart =
    cut_loop-SameGenus e f g s is os rows (subst (λ y. IsMapOf (2 * e) f ((s ∷ (is ++ y ∷ os)) ∷ rows)) last is_f)
    (subst (λ zs. IsMapOf (2 * e) g (is ∷ zs ∷ rows)) (append-nil os) is_g)
    (subst (λ zs. Apart e g is zs) (append-nil os) apart)
border_rest-SameGenus e f g s t is os (q ∷ qs) rows last is_f is_g apart =
    let row : List ℕ = is ++ t ∷ os in
    let others : List (List ℕ) = border_lists (twin q.begins) qs ++ rows in
    let four : List ℕ = q.outside ∷ q.begins ∷ q.inside ∷ [] in
    let turned : IsMapOf (2 * e) f ((s ∷ row) ∷ (twin s ∷ four) ∷ others) =
    IsMapOf-swap (2 * e) f (twin s ∷ four) (s ∷ row) others
    (IsMapOf-turn (2 * e) f (q.begins ∷ q.inside ∷ twin s ∷ q.outside ∷ []) (twin s ∷ four) ((s ∷ row) ∷ others)
    (turn_parts (q.begins ∷ q.inside ∷ []) (twin s ∷ q.outside ∷ []))
    (IsMapOf-swap (2 * e) f (s ∷ row) (q.begins ∷ q.inside ∷ twin s ∷ q.outside ∷ []) others is_f)) in
    let one : Becomes e f ((row ++ four) ∷ others) = contracted_edge-Becomes e f s row four others turned in
    let is_h : IsMapOf (2 * e) one.0 ((q.begins ∷ ((q.inside ∷ is) ++ t ∷ (os ++ q.outside ∷ []))) ∷ others) =
    subst (λ zs. IsMapOf (2 * e) one.0 ((q.begins ∷ q.inside ∷ zs) ∷ others))
    (append_assoc is (t ∷ os) (q.outside ∷ []))
    (IsMapOf-turn (2 * e) one.0 ((row ++ q.outside ∷ []) ++ (q.begins ∷ q.inside ∷ []))
    (q.begins ∷ q.inside ∷ (row ++ q.outside ∷ [])) others
    (turn_parts (row ++ q.outside ∷ []) (q.begins ∷ q.inside ∷ []))
    (subst (λ zs. IsMapOf (2 * e) one.0 (zs ∷ others))
    (sym (append_assoc row (q.outside ∷ []) (q.begins ∷ q.inside ∷ []))) one.1)) in
    let behind : os ++ outside_darts (q ∷ qs) ≡ (os ++ q.outside ∷ []) ++ outside_darts qs =
    sym (append_assoc os (q.outside ∷ []) (outside_darts qs)) in
    SameGenus-trans e g one.0 f
    (border_rest-SameGenus e one.0 g q.begins t (q.inside ∷ is) (os ++ q.outside ∷ []) qs rows last is_h
    (subst (λ zs. IsMapOf (2 * e) g (zs ∷ ((os ++ q.outside ∷ []) ++ outside_darts qs) ∷ rows)) (inside-cons q qs is)
    (subst (λ zs. IsMapOf (2 * e) g ((inside_darts (q ∷ qs) ++ is) ∷ zs ∷ rows)) behind is_g))
    (subst (λ zs. Apart e g zs ((os ++ q.outside ∷ []) ++ outside_darts qs)) (inside-cons q qs is)
    (subst (λ zs. Apart e g (inside_darts (q ∷ qs) ++ is) zs) behind apart)))
    (SameGenus-sym e f one.0 one.2)

-- a border taken away or put in: what it crosses inside stands at one vertex, and outside at another
pub border-SameGenus : (e : ℕ) (f g : ℕ → ℕ) (q : Place) (qs : List Place) (rows : List (List ℕ))
    → IsMapOf (2 * e) f (closed_border (q ∷ qs) ++ rows)
    → IsMapOf (2 * e) g (inside_darts (q ∷ qs) ∷ outside_darts (q ∷ qs) ∷ rows)
    → Apart e g (inside_darts (q ∷ qs)) (outside_darts (q ∷ qs)) → SameGenus e g f
border-SameGenus e f g q qs rows is_f is_g apart =
    let whole : inside_darts (q ∷ qs) ≡ inside_darts qs ++ q.inside ∷ [] =
    reverse-append (q.inside ∷ []) (map (λ p. p.inside) qs) in
    border_rest-SameGenus e f g q.begins (twin (last_begin q.begins qs)) (q.inside ∷ [])
    (q.outside ∷ []) qs rows refl is_f
    (subst (λ zs. IsMapOf (2 * e) g (zs ∷ outside_darts (q ∷ qs) ∷ rows)) whole is_g)
    (subst (λ zs. Apart e g zs (outside_darts (q ∷ qs))) whole apart)

-- a border whose darts are fresh can be put in between a vertex and another that is apart
pub border-Becomes : (e : ℕ) (g : ℕ → ℕ) (q : Place) (qs : List Place) (rows : List (List ℕ))
    → IsMapOf (2 * e) g (inside_darts (q ∷ qs) ∷ outside_darts (q ∷ qs) ∷ rows)
    → Apart e g (inside_darts (q ∷ qs)) (outside_darts (q ∷ qs)) → Distinct (flat (closed_border (q ∷ qs) ++ rows))
    → Below (2 * e) (flat (closed_border (q ∷ qs) ++ rows)) → Becomes e g (closed_border (q ∷ qs) ++ rows)
border-Becomes e g q qs rows is_g apart once below =
    let f : ℕ → ℕ = next_by (closed_border (q ∷ qs) ++ rows) in
    let is : IsMapOf (2 * e) f (closed_border (q ∷ qs) ++ rows) =
    IsMapOf-by (2 * e) (closed_border (q ∷ qs) ++ rows) once below in
    (f, is, border-SameGenus e f g q qs rows is is_g apart)

-- a border of a flat map some of whose edges are contracted, taken away
border_rest-CanBeFlat : (e : ℕ) (f : ℕ → ℕ) (s t : ℕ) (is os : List ℕ) (qs : List Place) (rows : List (List ℕ))
    → t ≡ twin (last_begin s qs) → IsMapOf (2 * e) f ((s ∷ (is ++ t ∷ os)) ∷ (border_lists (twin s) qs ++ rows))
    → IsFlat e f → (g : ℕ → ℕ) × IsMapOf (2 * e) g ((inside_darts qs ++ is) ∷ (os ++ outside_darts qs) ∷ rows)
    × IsFlat e g × Apart e g (inside_darts qs ++ is) (os ++ outside_darts qs)
border_rest-CanBeFlat e f s t is os [] rows last is_f z =
    let is' : IsMapOf (2 * e) f ((s ∷ (is ++ twin s ∷ os)) ∷ rows) =
    subst (λ y. IsMapOf (2 * e) f ((s ∷ (is ++ y ∷ os)) ∷ rows)) last is_f in
    let cut : CanBeFlat e (is ∷ os ∷ rows) = cut_loop-CanBeFlat e f s is os rows is' z in (
      cut.0,
      subst (λ zs. IsMapOf (2 * e) cut.0 (is ∷ zs ∷ rows))
          (sym (append-nil os)) cut.1,
      cut.2,
      subst (λ zs. Apart e cut.0 is zs) (sym (append-nil os))
          (cut_loop-Apart e f cut.0 s is os rows is' cut.1 z),
    )
border_rest-CanBeFlat e f s t is os (q ∷ qs) rows last is_f z =
    let row : List ℕ = is ++ t ∷ os in
    let others : List (List ℕ) = border_lists (twin q.begins) qs ++ rows in
    let four : List ℕ = q.outside ∷ q.begins ∷ q.inside ∷ [] in
    let turned : IsMapOf (2 * e) f ((s ∷ row) ∷ (twin s ∷ four) ∷ others) =
    IsMapOf-swap (2 * e) f (twin s ∷ four) (s ∷ row) others
    (IsMapOf-turn (2 * e) f (q.begins ∷ q.inside ∷ twin s ∷ q.outside ∷ []) (twin s ∷ four) ((s ∷ row) ∷ others)
    (turn_parts (q.begins ∷ q.inside ∷ []) (twin s ∷ q.outside ∷ []))
    (IsMapOf-swap (2 * e) f (s ∷ row) (q.begins ∷ q.inside ∷ twin s ∷ q.outside ∷ []) others is_f)) in
    let one : Becomes e f ((row ++ four) ∷ others) = contracted_edge-Becomes e f s row four others turned in
    let is_h : IsMapOf (2 * e) one.0 ((q.begins ∷ ((q.inside ∷ is) ++ t ∷ (os ++ q.outside ∷ []))) ∷ others) =
    subst (λ zs. IsMapOf (2 * e) one.0 ((q.begins ∷ q.inside ∷ zs) ∷ others))
    (append_assoc is (t ∷ os) (q.outside ∷ []))
    (IsMapOf-turn (2 * e) one.0 ((row ++ q.outside ∷ []) ++ (q.begins ∷ q.inside ∷ []))
    (q.begins ∷ q.inside ∷ (row ++ q.outside ∷ [])) others
    (turn_parts (row ++ q.outside ∷ []) (q.begins ∷ q.inside ∷ []))
    (subst (λ zs. IsMapOf (2 * e) one.0 (zs ∷ others))
    (sym (append_assoc row (q.outside ∷ []) (q.begins ∷ q.inside ∷ []))) one.1)) in
    let behind : (os ++ q.outside ∷ []) ++ outside_darts qs ≡ os ++ outside_darts (q ∷ qs) =
    append_assoc os (q.outside ∷ []) (outside_darts qs) in
    subst (λ zs. (g : ℕ → ℕ) × IsMapOf (2 * e) g ((inside_darts (q ∷ qs) ++ is) ∷ zs ∷ rows) × IsFlat e g
    × Apart e g (inside_darts (q ∷ qs) ++ is) zs) behind
    (subst (λ ws. (g : ℕ → ℕ) × IsMapOf (2 * e) g (ws ∷ ((os ++ q.outside ∷ []) ++ outside_darts qs) ∷ rows)
    × IsFlat e g × Apart e g ws ((os ++ q.outside ∷ []) ++ outside_darts qs)) (sym (inside-cons q qs is))
    (border_rest-CanBeFlat e one.0 q.begins t (q.inside ∷ is) (os ++ q.outside ∷ []) qs rows last is_h
    (SameGenus-IsFlat e f one.0 one.2 z)))

-- a border of a flat map can be taken away: the rest is flat, and what was inside is apart from what was outside
pub border-CanBeFlat : (e : ℕ) (f : ℕ → ℕ) (q : Place) (qs : List Place) (rows : List (List ℕ))
    → IsMapOf (2 * e) f (closed_border (q ∷ qs) ++ rows) → IsFlat e f
    → (g : ℕ → ℕ) × IsMapOf (2 * e) g (inside_darts (q ∷ qs) ∷ outside_darts (q ∷ qs) ∷ rows) × IsFlat e g
    × Apart e g (inside_darts (q ∷ qs)) (outside_darts (q ∷ qs))
border-CanBeFlat e f q qs rows is_f z =
    subst (λ ws. (g : ℕ → ℕ) × IsMapOf (2 * e) g (ws ∷ outside_darts (q ∷ qs) ∷ rows) × IsFlat e g
    × Apart e g ws (outside_darts (q ∷ qs))) (sym (reverse-append (q.inside ∷ []) (map (λ p. p.inside) qs)))
    (border_rest-CanBeFlat e f q.begins (twin (last_begin q.begins qs)) (q.inside ∷ [])
    (q.outside ∷ []) qs rows refl is_f z)
