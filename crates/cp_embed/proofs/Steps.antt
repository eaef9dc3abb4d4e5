-- One step of an embedding: a vertex moves from the rest to a connected prefix.
use Rattle.std.proofs.Common.{◌≡◌, ℕ, ◌*◌, ◌⊎◌, ◌↔◌, List, [], ◌∷◌, ◌++◌, append_assoc, append-nil, sym, refl, ap, ◌∙◌, subst, inl, inr, ⊎_elim}
use Rattle.cp_lists.specs.CyclicLists.{Distinct, Has, Lacks}
use Rattle.cp_lists.specs.Rows.{flat}
use Rattle.cp_lists.specs.Turns.{IsTurn}
use Rattle.cp_lists.proofs.DistinctLists.{Distinct-apart, Distinct-append_right, Has-append_right, Lacks-append_right, has_lacks}
use Rattle.cp_lists.proofs.TurnedLists.{turn-Has, turn_parts}
use Rattle.cp_faces.specs.Twins.{twin}
use Rattle.cp_faces.proofs.Twins.{twin-twin}
use Rattle.cp_maps.specs.Genus.{Becomes, CanBeFlat, IsFlat}
use Rattle.cp_maps.specs.Gluings.{Grows, HoldsLeaving}
use Rattle.cp_maps.specs.Maps.{IsMapOf, next_by}
use Rattle.cp_maps.specs.Mirrors.{mirror}
use Rattle.cp_maps.proofs.CollapsedVertices.{collapsed-Becomes}
use Rattle.cp_maps.proofs.ContractedEdges.{contracted_edge-IsMapOf}
use Rattle.cp_maps.proofs.FewerDarts.{CanBeFlat-IsFlat}
use Rattle.cp_maps.proofs.Genus.{SameGenus-IsFlat, SameGenus-sym}
use Rattle.cp_maps.proofs.MapLists.{IsMapOf-among, IsMapOf-some, IsMapOf-swap, IsMapOf-turn}
use Rattle.cp_embed.specs.Steps.{StandsBetween}
use Rattle.cp_embed.proofs.MiddleVertices.{three_vertices-StandsBetween}
use Rattle.cp_embed.proofs.MovedVertices.{run_exchanged-SameGenus, run_turned-IsMapOf}

-- where a vertex can move into another, the map afterwards is there
moved_vertex-IsMapOf : (n : ℕ) (f : ℕ → ℕ) (o : ℕ) (os is ks : List ℕ) (rows : List (List ℕ))
    → IsMapOf n f ((o ∷ (os ++ is)) ∷ (twin o ∷ (ks ++ mirror os)) ∷ rows)
    → IsMapOf n (next_by ((is ++ ks) ∷ rows)) ((is ++ ks) ∷ rows)
moved_vertex-IsMapOf n f o os is ks rows is_f =
    let more : List ℕ = mirror os ++ os in
    let one : List (List ℕ) = ((os ++ is) ++ (ks ++ mirror os)) ∷ rows in
    let is_one : IsMapOf n (next_by one) one = contracted_edge-IsMapOf n f o (os ++ is) (ks ++ mirror os) rows is_f in
    let two : IsMapOf n (next_by one) ((more ++ (is ++ ks)) ∷ rows) =
    IsMapOf-turn n (next_by one) ((is ++ ks) ++ more) (more ++ (is ++ ks)) rows (turn_parts (is ++ ks) more)
    (subst (λ us. IsMapOf n (next_by one) (us ∷ rows))
    (append_assoc is (ks ++ mirror os) os ∙ ap (λ us. is ++ us) (append_assoc ks (mirror os) os)
    ∙ sym (append_assoc is ks more))
    (IsMapOf-turn n (next_by one) (os ++ (is ++ (ks ++ mirror os))) ((is ++ (ks ++ mirror os)) ++ os) rows
    (turn_parts os (is ++ (ks ++ mirror os)))
    (subst (λ us. IsMapOf n (next_by one) (us ∷ rows)) (append_assoc os is (ks ++ mirror os)) is_one))) in
    let regroup : (more ++ (is ++ ks)) ++ flat rows ≡ more ++ ((is ++ ks) ++ flat rows) = append_assoc more (is ++ ks)
    (flat rows) in
    IsMapOf-some n (next_by one) ((more ++ (is ++ ks)) ∷ rows) ((is ++ ks) ∷ rows) two
    (Distinct-append_right more ((is ++ ks) ++ flat rows) (subst Distinct regroup two.once))
    (λ d h. subst (Has d) (sym regroup) (Has-append_right d more ((is ++ ks) ++ flat rows) h))

-- the same with the lists as a step reads them: the run exchanged
pub run_exchanged-Becomes : (e : ℕ) (f : ℕ → ℕ) (o : ℕ) (os is row us vs : List ℕ) (rows : List (List ℕ))
    → IsTurn row (is ++ o ∷ os) → IsMapOf (2 * e) f (row ∷ (us ++ (mirror (o ∷ os) ++ vs)) ∷ rows)
    → Becomes e f ((us ++ (is ++ vs)) ∷ rows)
run_exchanged-Becomes e f o os is row us vs rows turn is_f =
    let g : ℕ → ℕ = next_by ((is ++ (vs ++ us)) ∷ rows) in
    let is_g : IsMapOf (2 * e) g ((us ++ (is ++ vs)) ∷ rows) = IsMapOf-turn (2 * e) g ((is ++ vs) ++ us)
    (us ++ (is ++ vs)) rows (turn_parts (is ++ vs) us)
    (subst (λ ws. IsMapOf (2 * e) g (ws ∷ rows)) (sym (append_assoc is vs us))
    (moved_vertex-IsMapOf (2 * e) f o os is (vs ++ us) rows
    (run_turned-IsMapOf (2 * e) f o os is row us vs rows turn is_f))) in
    (g, is_g, run_exchanged-SameGenus e f g o os is row us vs rows turn is_f is_g)

-- a map in which a vertex stands between a connected prefix and the rest, whose list begins with an edge to the prefix
module _ (e : ℕ) (f : ℕ → ℕ) (r i o : ℕ) (zs : List ℕ) (group : List (List ℕ)) (row w : List ℕ)
    (is : IsMapOf (2 * e) f (row ∷ (r ∷ w) ∷ zs ∷ group)) (grows : Grows zs group)
    (root : Has (twin r) (zs ++ flat group)) (one : Has i row) (one_in : Has (twin i) (zs ++ flat group))
    (of_row : (d : ℕ) → Has d row → Has (twin d) (zs ++ flat group) ⊎ Has (twin d) w)
    (of_w : (d : ℕ) → Has d w → Has (twin d) (zs ++ flat group) ⊎ Has (twin d) row) where
  -- the darts of the prefix
  abbrev all : List ℕ
  all = zs ++ flat group

  -- they are distinct
  all_distinct : Distinct all
  all_distinct = Distinct-append_right (r ∷ w) all (Distinct-append_right row ((r ∷ w) ++ all) is.once)

  -- none is in row
  row_all : (d : ℕ) → Has d row → Lacks d all
  row_all d h = Lacks-append_right d (r ∷ w) all (Distinct-apart d row ((r ∷ w) ++ all) is.once h)

  -- none is in the rest
  rest_all : (d : ℕ) → Has d (r ∷ w) → Lacks d all
  rest_all d h = Distinct-apart d (r ∷ w) all (Distinct-append_right row ((r ∷ w) ++ all) is.once) h

  -- the prefix in front
  is_front : IsMapOf (2 * e) f (zs ∷ (group ++ row ∷ (r ∷ w) ∷ []))
  is_front = IsMapOf-among (2 * e) f row (zs ∷ group) ((r ∷ w) ∷ [])
      (IsMapOf-among (2 * e) f (r ∷ w) (row ∷ zs ∷ group) []
      (subst (λ rows. IsMapOf (2 * e) f ((r ∷ w) ∷ row ∷ zs ∷ rows)) (sym (append-nil group))
      (IsMapOf-swap (2 * e) f row (r ∷ w) (zs ∷ group) is)))

  -- the prefix made one vertex
  whole : (ws : List ℕ) × Becomes e f (ws ∷ row ∷ (r ∷ w) ∷ []) × HoldsLeaving ws all
  whole = collapsed-Becomes e f zs zs group (row ∷ (r ∷ w) ∷ []) is_front
      (record { within = λ d h. h; outward = λ d h l. h }) (λ d h. Distinct-apart d zs (flat group) all_distinct h)
      (Distinct-append_right zs (flat group) all_distinct) grows

  -- what leads out of the prefix is held
  held : (d : ℕ) → Lacks d all → Has (twin d) all → Has (twin d) whole.0
  held d l h = whole.2.outward (twin d) h (subst (λ y. Lacks y all) (sym (twin-twin d)) l)

  -- in a flat map it reads as it should
  pub prefix-StandsBetween : IsFlat e f → StandsBetween all row w
  prefix-StandsBetween z =
      let three : StandsBetween whole.0 row w = three_vertices-StandsBetween e whole.1.0 r i whole.0 row w whole.1.1
      (held r (rest_all r (inl refl)) root) one (held i (row_all i one) one_in)
      (λ d h. ⊎_elim (λ k. inl (held d (row_all d h) k)) (λ k. inr k) (of_row d h))
      (λ d h. ⊎_elim (λ k. inl (held d (rest_all d (inr h)) k)) (λ k. inr k) (of_w d h))
      (SameGenus-IsFlat e f whole.1.0 whole.1.2 z) in
      record {
        ins = three.ins;
        outs = three.outs;
        front = three.front;
        behind = three.behind;
        turn = three.turn;
        whole = three.whole;
        into = λ d h. whole.2.within (twin d) (three.into d h);
      }

  module _ (other : Has o row) (other_out : Has (twin o) w) where
    -- some edge leads to the rest
    no_outs : (x : StandsBetween all row w) → x.outs ≡ [] → ⊥
    no_outs x none = has_lacks (twin o) all
        (x.into o (subst (Has o) (ap (λ us. x.ins ++ us) none ∙ append-nil x.ins)
        (turn-Has row (x.ins ++ x.outs) o x.turn other)))
        (rest_all (twin o) (inr other_out))

    -- the map with the run exchanged
    exchanged : (os ins us vs : List ℕ) → (os ≡ [] → ⊥) → IsTurn row (ins ++ os) → w ≡ us ++ (mirror os ++ vs)
        → Becomes e f ((r ∷ (us ++ (ins ++ vs))) ∷ zs ∷ group)
    exchanged [] ins us vs some turn parts = absurd (some refl)
    exchanged (y ∷ ys) ins us vs some turn parts = run_exchanged-Becomes e f y ys ins row (r ∷ us) vs
        (zs ∷ group) turn (subst (λ ws. IsMapOf (2 * e) f (row ∷ (r ∷ ws) ∷ zs ∷ group)) parts is)

    -- flat, exactly where it reads so and is flat with the run exchanged
    pub step-IsFlat : IsFlat e f ↔ ((x : StandsBetween all row w) × CanBeFlat e
        ((r ∷ (x.front ++ (x.ins ++ x.behind))) ∷ zs ∷ group))
    step-IsFlat = (
      λ z.
          let x : StandsBetween all row w = prefix-StandsBetween z in
          let g : Becomes e f ((r ∷ (x.front ++ (x.ins ++ x.behind))) ∷ zs ∷ group) = exchanged x.outs x.ins x.front
          x.behind (no_outs x) x.turn x.whole in
          (x, (g.0, g.1, SameGenus-IsFlat e f g.0 g.2 z)),
      λ p.
          let x : StandsBetween all row w = p.0 in
          let g : Becomes e f ((r ∷ (x.front ++ (x.ins ++ x.behind))) ∷ zs ∷ group) = exchanged x.outs x.ins x.front
          x.behind (no_outs x) x.turn x.whole in
          SameGenus-IsFlat e g.0 f (SameGenus-sym e f g.0 g.2)
          (CanBeFlat-IsFlat e g.0 ((r ∷ (x.front ++ (x.ins ++ x.behind))) ∷ zs ∷ group) g.1 p.1),
    )
