-- A depth-first search: what one step keeps, and what holds at the end.
use Rattle.std.proofs.Common.{◌≡◌, ℕ, suc, ◌+◌, ◌-◌, ◌*◌, ◌/◌, ◌<◌, ◌≤◌, ◌⊎◌, not, List, [], ◌∷◌, length, get_or, set, ltb, sym, refl, ap, ◌∙◌, subst, inl, inr, ⊎_elim, arith}
use Rattle.std.specs.Prelude.{replicate}
use Rattle.std.specs.List.{sum_by}
use Rattle.std.proofs.lemmas.Bool.{cases_eq, cases_lt}
use Rattle.std.proofs.lemmas.List.{get_or-set_same, get_or-set_other, get_or_append_left, get_or_push, get_or_read, get_or-replicate, length-set, length_push, length-replicate}
use Rattle.std.proofs.lemmas.List.Sums.{sum_by-set}
use Rattle.cp_base.specs.Graphs.{AreWithin}
use Rattle.cp_lists.specs.Count.{without}
use Rattle.cp_orbits.specs.Connected.{Joins}
use Rattle.cp_orbits.specs.Twins.{twin}
use Rattle.cp_lists.proofs.Counting.{count_all, count_agree, count_without, without_at, without_other}
use Rattle.cp_conn.specs.Darts.{start, finish, IsEntry, AreChained}
use Rattle.cp_conn.specs.Search.{is_unmet}
use Rattle.cp_conn.specs.SearchForest.{Forest, forest_with, no_forest, with_vertex, IsVertex, Above, itself, child, Hangs, IsPlacedBelow, IsUpright, IsSearchForest}
use Rattle.cp_conn.specs.Deepening.{LeadDown, IsGrown, AreFollowed, StandsAt, Rests, StayMet, IsFurther}
use Rattle.cp_conn.proofs.DartChains.{dart_joins, Joins-sym, start_within, finish_within}
use Rattle.cp_conn.proofs.Searching.{unmet_true, unmet_false}
use Rattle.cp_conn.proofs.BlockSteps.{twin-lt, start_twin, finish_twin}
use Rattle.cp_conn.proofs.Forests.{above_up, above_root}

-- v is a new root, or hangs by edge e below a vertex x that was met
abbrev pub HangsBy : List (ℕ × ℕ) → ℕ → Forest → ℕ → ℕ → ℕ → Type 0
HangsBy es n forest v x e = (x ≡ v)
    ⊎ ((x < n) × (get_or forest.number x 0 < n) × (e < length es) × Joins (get_or es e (0, 0)) v x)

-- a forest with one vertex more: v, which hangs by edge e below x or is a root
pub record Meets (es : List (ℕ × ℕ)) (n : ℕ) (forest : Forest) (v x e : ℕ) (larger : Forest) : Type 0 where
  pub grown : IsGrown es n forest
  pub within : v < n
  pub new : n ≤ get_or forest.number v 0
  pub hangs : HangsBy es n forest v x e
  pub made : larger ≡ with_vertex forest v x e

-- a list with one value changed, read at the place
pub set_at : (xs ys : List ℕ) (v x w : ℕ) → ys ≡ set xs v x → v < length xs → w ≡ v → get_or ys w 0 ≡ x
set_at xs ys v x w is lt e = ap (λ (zs : List ℕ). get_or zs w 0) is ∙ ap (λ (k : ℕ). get_or (set xs v x) k 0) e
    ∙ get_or-set_same xs v x 0 lt

-- a list with one value changed, read elsewhere
pub set_other : (xs ys : List ℕ) (v x w : ℕ) → ys ≡ set xs v x → (w ≡ v → ⊥) → get_or ys w 0 ≡ get_or xs w 0
set_other xs ys v x w is ne = ap (λ (zs : List ℕ). get_or zs w 0) is ∙ get_or-set_other xs v w x 0 ne

-- there is a number left for a new vertex
room : (es : List (ℕ × ℕ)) (n : ℕ) (forest : Forest) (v : ℕ) → IsGrown es n forest → v < n
    → n ≤ get_or forest.number v 0 → length forest.order < n
room es n forest v g lt new =
    omega (arith, g.all, count_without n (is_unmet n forest.number) v lt (unmet_true n forest.number v new))

-- one vertex more is met
pub grown_more : (es : List (ℕ × ℕ)) (n : ℕ) (forest : Forest) (v x e : ℕ) (larger : Forest)
    → Meets es n forest v x e larger → IsGrown es n larger
grown_more es n forest v x e larger m = record {
  number_each = ap (λ (g : Forest). length g.number) m.made ∙ length-set forest.number v (length forest.order)
      ∙ g.number_each;
  parent_each = ap (λ (g : Forest). length g.parent) m.made ∙ length-set forest.parent v x ∙ g.parent_each;
  edge_each = ap (λ (g : Forest). length g.edge) m.made ∙ length-set forest.edge v e ∙ g.edge_each;
  ordered = λ w ltw met. ⊎_elim
      (λ q. (
        omega (arith, num_at w q, longer),
        ap (λ (k : ℕ). get_or larger.order k 0)
            (num_at w q) ∙ order_last ∙ sym q,
      ))
      (λ ne. let h = g.ordered w ltw (omega (arith, num_other w ne)) in (
        omega (arith, num_other w ne, h.0, longer),
        ap (λ (k : ℕ). get_or larger.order k 0) (num_other w ne)
            ∙ order_front (get_or forest.number w 0) h.0 ∙ h.1,
      ))
      (cases_eq w v);
  numbered = λ i lti. ⊎_elim
      (λ lt. let h = g.numbered i lt in let differ = old_differs i lt in (
        omega (arith, order_front i lt, h.0),
        ap (λ (k : ℕ). get_or larger.number k 0) (order_front i lt)
            ∙ num_other (get_or forest.order i 0) differ ∙ h.1,
      ))
      (λ ge. let last : i ≡ length forest.order = omega (arith, longer) in (
        omega (arith, ap (λ (k : ℕ). get_or larger.order k 0) last, order_last, m.within),
        num_at (get_or larger.order i 0)
            (ap (λ (k : ℕ). get_or larger.order k 0) last ∙ order_last) ∙ sym last,
      ))
      (cases_lt i (length forest.order));
  all = omega (
    arith,
    longer,
    g.all,
    count_without n (is_unmet n forest.number) v m.within
        (unmet_true n forest.number v m.new),
    count_agree n (without (is_unmet n forest.number) v) (is_unmet n larger.number) fewer,
  );
  placed = λ w ltw met. ⊎_elim (λ q. subst (IsPlacedBelow es n larger) (sym q) new_placed)
      (λ ne. let old : get_or forest.number w 0 < n = omega (arith, num_other w ne) in
      old_placed w ne old (g.placed w ltw old)) (cases_eq w v);
}
  where
    -- what the search has grown before
    g : IsGrown es n forest
    g = m.grown

    -- the new vertex has the number of the vertices met before
    num_at : (w : ℕ) → w ≡ v → get_or larger.number w 0 ≡ length forest.order
    num_at w q = set_at forest.number larger.number v (length forest.order) w (ap (λ (g : Forest). g.number) m.made)
        (omega (arith, m.within, g.number_each)) q

    -- the numbers of other vertices stay
    num_other : (w : ℕ) → (w ≡ v → ⊥) → get_or larger.number w 0 ≡ get_or forest.number w 0
    num_other w ne = set_other forest.number larger.number v (length forest.order) w
        (ap (λ (g : Forest). g.number) m.made) ne

    -- the order has one vertex more
    longer : length larger.order ≡ length forest.order + 1
    longer = ap (λ (g : Forest). length g.order) m.made ∙ length_push forest.order v

    -- the new vertex is the last of the order
    order_last : get_or larger.order (length forest.order) 0 ≡ v
    order_last = ap (λ (g : Forest). get_or g.order (length forest.order) 0) m.made
        ∙ get_or_push forest.order v 0 (length forest.order) refl

    -- the order before stays
    order_front : (i : ℕ) → i < length forest.order → get_or larger.order i 0 ≡ get_or forest.order i 0
    order_front i lt = ap (λ (g : Forest). get_or g.order i 0) m.made ∙ get_or_append_left forest.order (v ∷ []) 0 i lt

    -- the vertices of the order before are others than the new one
    old_differs : (i : ℕ) → i < length forest.order → get_or forest.order i 0 ≡ v → ⊥
    old_differs i lt q = omega (
      arith,
      (g.numbered i lt).1,
      ap
          (λ (k : ℕ). get_or forest.number k 0) q,
      m.new,
      room es n forest v g m.within m.new,
      lt,
    )

    -- the vertices that are not met are those before without the new one
    fewer : (w : ℕ) → w < n → without (is_unmet n forest.number) v w ≡ is_unmet n larger.number w
    fewer w ltw = ⊎_elim
        (λ q. without_at (is_unmet n forest.number) v w q
        ∙ sym (unmet_false n larger.number w
        (omega (arith, num_at w q, room es n forest v g m.within m.new))))
        (λ ne. without_other (is_unmet n forest.number) v w ne ∙ ap (λ (z : ℕ). not (ltb z n)) (sym (num_other w ne)))
        (cases_eq w v)

    -- the parent of the new vertex is x
    up_at : get_or larger.parent v 0 ≡ x
    up_at = set_at forest.parent larger.parent v x v (ap (λ (g : Forest). g.parent) m.made)
        (omega (arith, m.within, g.parent_each)) refl

    -- the edge of the new vertex to its parent is e
    edge_at : get_or larger.edge v 0 ≡ e
    edge_at = set_at forest.edge larger.edge v e v (ap (λ (g : Forest). g.edge) m.made)
        (omega (arith, m.within, g.edge_each)) refl

    -- the new vertex is placed
    new_placed : IsPlacedBelow es n larger v
    new_placed = ⊎_elim
        (λ q. inl (up_at ∙ q))
        (λ h. let differ : x ≡ v → ⊥ = λ q. omega (arith, h.1, m.new, ap (λ (k : ℕ). get_or forest.number k 0) q) in
        inr (record {
          within = omega (arith, up_at, h.0);
          lower = omega (
            arith,
            num_at v refl,
            ap (λ (k : ℕ). get_or larger.number k 0) up_at,
            num_other x differ,
            (g.ordered x h.0 h.1).0,
          );
          edge_within = omega (arith, edge_at, h.2);
          joined = subst (λ (k : ℕ). Joins (get_or es k (0, 0)) v (get_or larger.parent v 0)) (sym edge_at)
              (subst (Joins (get_or es e (0, 0)) v) (sym up_at) h.3);
        }))
        m.hangs

    -- a vertex that was met and hangs below another still has a higher number than that
    lower_kept : (w : ℕ) → (w ≡ v → ⊥) → get_or forest.number w 0 < n
        → get_or larger.parent w 0 ≡ get_or forest.parent w 0
        → Hangs es n forest w → get_or larger.number (get_or larger.parent w 0) 0 < get_or larger.number w 0
    lower_kept w ne old same h =
        let differ : get_or forest.parent w 0 ≡ v → ⊥ =
        λ q. omega (arith, h.lower, old, m.new, ap (λ (k : ℕ). get_or forest.number k 0) q) in
        omega (
          arith,
          h.lower,
          ap (λ (k : ℕ). get_or larger.number k 0) same,
          num_other
              (get_or forest.parent w 0) differ,
          num_other w ne,
        )

    -- a vertex that was met stays placed
    old_placed : (w : ℕ) → (w ≡ v → ⊥) → get_or forest.number w 0 < n → IsPlacedBelow es n forest w
        → IsPlacedBelow es n larger w
    old_placed w ne old p =
        let up_same : get_or larger.parent w 0 ≡ get_or forest.parent w 0 = set_other forest.parent larger.parent v x
        w (ap (λ (g : Forest). g.parent) m.made) ne in
        let edge_same : get_or larger.edge w 0 ≡ get_or forest.edge w 0 = set_other forest.edge larger.edge v e w
        (ap (λ (g : Forest). g.edge) m.made) ne in
        ⊎_elim
        (λ q. inl (up_same ∙ q))
        (λ h. inr (record {
          within = omega (arith, up_same, h.within);
          lower = lower_kept w ne old up_same h;
          edge_within = omega (arith, edge_same, h.edge_within);
          joined = subst (λ (k : ℕ). Joins (get_or es k (0, 0)) w (get_or larger.parent w 0)) (sym edge_same)
              (subst (Joins (get_or es (get_or forest.edge w 0) (0, 0)) w) (sym up_same) h.joined);
        }))
        p

-- a new vertex keeps what is above a vertex that was met
pub above_grown : (es : List (ℕ × ℕ)) (n : ℕ) (forest : Forest) (v x e : ℕ) (larger : Forest) (a b : ℕ)
    → Meets es n forest v x e larger
    → b < n → get_or forest.number b 0 < n → Above forest a b → Above larger a b
above_grown es n forest v x e larger a b m lt met itself = itself
above_grown es n forest v x e larger a b m lt met (child w) =
    let differ : b ≡ v → ⊥ = λ q. omega (arith, met, m.new, ap (λ (k : ℕ). get_or forest.number k 0) q) in
    let parent : (get_or forest.parent b 0 < n) × (get_or forest.number (get_or forest.parent b 0) 0 < n) =
    ⊎_elim (λ q. subst (λ (k : ℕ). (k < n) × (get_or forest.number k 0 < n)) (sym q) (lt, met))
    (λ h. (h.within, omega (arith, h.lower))) (m.grown.placed b lt met) in
    child (subst (Above larger a)
    (sym (set_other forest.parent larger.parent v x b (ap (λ (g : Forest). g.parent) m.made) differ))
    (above_grown es n forest v x e larger a (get_or forest.parent b 0) m parent.0 parent.1 w))

-- a vertex that was met stays met
pub stay_met : (es : List (ℕ × ℕ)) (n : ℕ) (forest : Forest) (v x e : ℕ) (larger : Forest)
    → Meets es n forest v x e larger → StayMet n forest larger
stay_met es n forest v x e larger m w ltw met =
    let differ : w ≡ v → ⊥ = λ q. omega (arith, met, m.new, ap (λ (k : ℕ). get_or forest.number k 0) q) in
    omega (
      arith,
      met,
      set_other forest.number larger.number v (length forest.order) w
          (ap (λ (g : Forest). g.number) m.made) differ,
    )

-- the new vertex is met
pub new_met : (es : List (ℕ × ℕ)) (n : ℕ) (forest : Forest) (v x e : ℕ) (larger : Forest)
    → Meets es n forest v x e larger
    → get_or larger.number v 0 < n
new_met es n forest v x e larger m =
    omega (
      arith,
      room es n forest v m.grown m.within m.new,
      set_at forest.number larger.number v
          (length forest.order) v (ap (λ (g : Forest). g.number) m.made)
          (omega (arith, m.within, m.grown.number_each)) refl,
    )

-- what was followed stays so where a vertex more is met
pub followed_grown : (es : List (ℕ × ℕ)) (n : ℕ) (forest : Forest) (v x e : ℕ) (larger : Forest) (next : List ℕ)
    → AreWithin n es
    → Meets es n forest v x e larger → AreFollowed es n forest next
    → AreFollowed es n larger next
followed_grown es n forest v x e larger next w m f = record {
  next_each = f.next_each;
  entries = f.entries;
  starts = f.starts;
  met = λ d lt le.
      let h = f.met d lt le in
      let lts : start es d < n = start_within n es d w lt in
      let ltf : finish es d < n = finish_within n es d w lt in (
        stay (start es d) lts h.0,
        stay (finish es d) ltf h.1,
        ⊎_elim
            (λ i. inl (above (start es d) (finish es d) ltf h.1 i))
            (λ i. inr (above (finish es d) (start es d) lts h.0 i)) h.2,
      );
}
  where
    -- the vertices that were met stay met
    stay : StayMet n forest larger
    stay = stay_met es n forest v x e larger m

    -- what is above a vertex that was met stays so
    above : (a b : ℕ) → b < n → get_or forest.number b 0 < n → Above forest a b → Above larger a b
    above a b lt met i = above_grown es n forest v x e larger a b m lt met i

-- one dart more is followed
followed_more : (es : List (ℕ × ℕ)) (n : ℕ) (forest : Forest) (next next' lower : List ℕ) (now d : ℕ)
    → AreFollowed es n forest next → LeadDown es lower → now < n → suc d ≡ get_or next now 0
    → next' ≡ set next now (get_or lower d 0)
    → get_or forest.number now 0 < n → get_or forest.number (finish es d) 0 < n → IsUpright es forest d
    → AreFollowed es n forest next'
followed_more es n forest next next' lower now d f lead ltn is next_is here there upright = record {
  next_each = ap length next_is ∙ length-set next now (get_or lower d 0) ∙ f.next_each;
  entries = λ v lt. ⊎_elim (λ q. omega (arith, at v q, link.below, ltd))
      (λ ne. omega (arith, other v ne, f.entries v lt)) (cases_eq v now);
  starts = λ v k lt g. ⊎_elim (λ q. link.starts k (g ∙ at v q) ∙ from ∙ sym q) (λ ne. f.starts v k lt (g ∙ other v ne))
      (cases_eq v now);
  met = λ k lt le. ⊎_elim
      (λ q. ⊎_elim
      (λ under. absurd (link.highest k (omega (arith, le, at (start es k) q)) under (q ∙ sym from)))
      (λ over. ⊎_elim
      (λ same. subst (λ (j : ℕ). (get_or forest.number (start es j) 0 < n)
      × (get_or forest.number (finish es j) 0 < n) × IsUpright es forest j) (sym same)
      (subst (λ (z : ℕ). get_or forest.number z 0 < n) (sym from) here, there, upright))
      (λ higher. f.met k lt (omega (arith, is, over, higher, ap (λ (z : ℕ). get_or next z 0) q)))
      (cases_eq k d))
      (cases_lt k d))
      (λ ne. f.met k lt (omega (arith, le, other (start es k) ne)))
      (cases_eq (start es k) now);
}
  where
    -- d is a dart of the graph
    ltd : d < 2 * length es
    ltd = omega (arith, f.entries now ltn, is)

    -- d starts at the vertex now
    from : start es d ≡ now
    from = f.starts now d ltn is

    -- the next lower dart that starts where d does
    link : IsEntry es (start es d) d (get_or lower d 0)
    link = lead.entry d ltd

    -- the next entry of the vertex is that of the next lower dart
    at : (v : ℕ) → v ≡ now → get_or next' v 0 ≡ get_or lower d 0
    at v q = set_at next next' now (get_or lower d 0) v next_is (omega (arith, ltn, f.next_each)) q

    -- the next entries of other vertices stay
    other : (v : ℕ) → (v ≡ now → ⊥) → get_or next' v 0 ≡ get_or next v 0
    other v ne = set_other next next' now (get_or lower d 0) v next_is ne

-- a dart that leads to a vertex that was met
pub follow_old : (es : List (ℕ × ℕ)) (n : ℕ) (forest : Forest) (next next' lower : List ℕ) (now d : ℕ)
    → AreWithin n es → StandsAt es n forest next now → LeadDown es lower → suc d ≡ get_or next now 0
    → next' ≡ set next now (get_or lower d 0)
    → get_or forest.number (finish es d) 0 < n → StandsAt es n forest next' now
follow_old es n forest next next' lower now d w s lead is next_is met = record {
  grown = s.grown;
  followed = followed_more es n forest next next' lower now d s.followed lead s.within is next_is s.here met upright;
  within = s.within;
  here = s.here;
  done = λ v lt mv. ⊎_elim
      (λ q. inl (subst (Above forest v) q itself))
      (λ ne. ⊎_elim (λ i. inl i) (λ z. inr (set_other next next' now (get_or lower d 0) v next_is ne ∙ z))
      (s.done v lt mv))
      (cases_eq v now);
}
  where
    -- d is a dart of the graph
    ltd : d < 2 * length es
    ltd = omega (arith, s.followed.entries now s.within, is)

    -- d starts at the vertex now
    from : start es d ≡ now
    from = s.followed.starts now d s.within is

    -- the ends of d are one above the other: the end is above now, or else its darts were all followed
    upright : IsUpright es forest d
    upright = ⊎_elim
        (λ i. inr (subst (Above forest (finish es d)) (sym from) i))
        (λ z. let h = s.followed.met (twin d) (twin-lt (length es) d ltd)
        (omega (arith, z, ap (λ (k : ℕ). get_or next k 0) (start_twin es d))) in
        ⊎_elim
        (λ i. inr (subst (λ (k : ℕ). Above forest k (start es d)) (start_twin es d)
        (subst (Above forest (start es (twin d))) (finish_twin es d) i)))
        (λ i. inl (subst (λ (k : ℕ). Above forest k (finish es d)) (finish_twin es d)
        (subst (Above forest (finish es (twin d))) (start_twin es d) i)))
        h.2)
        (s.done (finish es d) (finish_within n es d w ltd) met)

-- a dart that leads to a new vertex
pub follow_new : (es : List (ℕ × ℕ)) (n : ℕ) (forest : Forest) (next next' lower : List ℕ) (now d : ℕ)
    (larger : Forest) → AreWithin n es → StandsAt es n forest next now
    → LeadDown es lower → suc d ≡ get_or next now 0 → next' ≡ set next now (get_or lower d 0)
    → n ≤ get_or forest.number (finish es d) 0 → larger ≡ with_vertex forest (finish es d) now (d / 2)
    → StandsAt es n larger next' (finish es d) × StayMet n forest larger
follow_new es n forest next next' lower now d larger w s lead is next_is new made = (
  record {
    grown = grown_more es n forest to now (d / 2) larger m;
    followed = followed_more es n larger next next' lower now d
        (followed_grown es n forest to now (d / 2) larger next w m s.followed) lead
        s.within is next_is (stay now s.within s.here)
        (new_met es n forest to now (d / 2) larger m)
        (inl (subst (λ (k : ℕ). Above larger k to) (sym from) now_above));
    within = ltt;
    here = new_met es n forest to now (d / 2) larger m;
    done = λ v lt mv. ⊎_elim
        (λ q. inl (subst (Above larger v) q itself))
        (λ ne. ⊎_elim
        (λ i. inl (child (subst (Above larger v) (sym parent)
        (above_grown es n forest to now (d / 2) larger v now m s.within s.here i))))
        (λ z. ⊎_elim
        (λ q. inl (subst (λ (k : ℕ). Above larger k to) (sym q) now_above))
        (λ nq. inr (set_other next next' now (get_or lower d 0) v next_is nq ∙ z))
        (cases_eq v now))
        (s.done v lt (omega (
          arith,
          mv,
          set_other forest.number larger.number to (length forest.order) v
              (ap (λ (g : Forest). g.number) made) ne,
        ))))
        (cases_eq v to);
  },
  stay,
)
  where
    -- the vertex that d ends at
    to : ℕ
    to = finish es d

    -- d is a dart of the graph
    ltd : d < 2 * length es
    ltd = omega (arith, s.followed.entries now s.within, is)

    -- d starts at the vertex now
    from : start es d ≡ now
    from = s.followed.starts now d s.within is

    -- d ends at a vertex
    ltt : finish es d < n
    ltt = finish_within n es d w ltd

    -- the edge of d joins its end to the vertex now
    joins : Joins (get_or es (d / 2) (0, 0)) (finish es d) now
    joins = Joins-sym (get_or es (d / 2) (0, 0)) now (finish es d)
        (subst (λ (k : ℕ). Joins (get_or es (d / 2) (0, 0)) k (finish es d)) from (dart_joins es d ltd))

    -- the end of d is met, and hangs by the edge of d below the vertex now
    m : Meets es n forest (finish es d) now (d / 2) larger
    m = record {
      grown = s.grown;
      within = ltt;
      new = new;
      hangs = inr (s.within, s.here, omega (arith, ltd), joins);
      made = made;
    }

    -- the vertices that were met stay met
    stay : StayMet n forest larger
    stay = stay_met es n forest to now (d / 2) larger m

    -- the parent of the new vertex is the vertex now
    parent : get_or larger.parent (finish es d) 0 ≡ now
    parent = set_at forest.parent larger.parent to now to (ap (λ (g : Forest). g.parent) made)
        (omega (arith, ltt, s.grown.parent_each)) refl

    -- the vertex now is above the new one
    now_above : Above larger now (finish es d)
    now_above = child (subst (Above larger now) (sym parent) itself)

-- where no dart is left at a vertex below another, the search goes up to its parent, of lower number
pub go_parent : (es : List (ℕ × ℕ)) (n : ℕ) (forest : Forest) (next : List ℕ) (now : ℕ)
    → StandsAt es n forest next now → get_or next now 0 ≡ 0 → (get_or forest.parent now 0 ≡ now → ⊥)
    → StandsAt es n forest next (get_or forest.parent now 0)
    × (get_or forest.number (get_or forest.parent now 0) 0 < get_or forest.number now 0)
go_parent es n forest next now s none differ =
    ⊎_elim
    (λ root. absurd (differ root))
    (λ h. (
      record {
        grown = s.grown;
        followed = s.followed;
        within = h.within;
        here = omega (arith, h.lower, s.here);
        done = λ v lt mv. ⊎_elim
            (λ i. ⊎_elim (λ q. inr (ap (λ (k : ℕ). get_or next k 0) q ∙ none)) (λ j. inl j) (above_up forest v now i))
            (λ z. inr z)
            (s.done v lt mv);
      },
      h.lower,
    ))
    (s.grown.placed now s.within s.here)

-- at a root where no dart is left the search rests
pub come_to_rest : (es : List (ℕ × ℕ)) (n : ℕ) (forest : Forest) (next : List ℕ) (now : ℕ)
    → StandsAt es n forest next now → get_or next now 0 ≡ 0 → get_or forest.parent now 0 ≡ now
    → Rests es n forest next
come_to_rest es n forest next now s none root = record {
  grown = s.grown;
  followed = s.followed;
  done = λ v lt mv. ⊎_elim (λ i. ap (λ (k : ℕ). get_or next k 0) (above_root forest v now i root) ∙ none) (λ z. z)
      (s.done v lt mv);
}

-- a search that rests stands at a new root once that is met, and what was met stays met
pub begin_at : (es : List (ℕ × ℕ)) (n : ℕ) (forest : Forest) (next : List ℕ) (root : ℕ)
    (larger : Forest) → AreWithin n es → Rests es n forest next → root < n
    → n ≤ get_or forest.number root 0
    → larger ≡ with_vertex forest root root 0 → StandsAt es n larger next root × StayMet n forest larger
begin_at es n forest next root larger w r lt new made = (
  record {
    grown = grown_more es n forest root root 0 larger m;
    followed = followed_grown es n forest root root 0 larger next w m r.followed;
    within = lt;
    here = new_met es n forest root root 0 larger m;
    done = λ v ltv mv. ⊎_elim
        (λ q. inl (subst (Above larger v) q itself))
        (λ ne. inr (r.done v ltv
        (omega (
          arith,
          mv,
          set_other forest.number larger.number root (length forest.order) v
              (ap (λ (g : Forest). g.number) made) ne,
        ))))
        (cases_eq v root);
  },
  stay_met es n forest root root 0 larger m,
)
  where
    -- the root is met, and hangs below itself
    m : Meets es n forest root root 0 larger
    m = record {
      grown = r.grown;
      within = lt;
      new = new;
      hangs = inl refl;
      made = made;
    }

-- the next entry of a vertex is lower than the one before
pub fewer_left : (es : List (ℕ × ℕ)) (n : ℕ) (forest : Forest) (next next' lower : List ℕ) (now d : ℕ)
    → AreFollowed es n forest next → LeadDown es lower → now < n → suc d ≡ get_or next now 0
    → next' ≡ set next now (get_or lower d 0) → sum_by (λ k. k) next' < sum_by (λ k. k) next
fewer_left es n forest next next' lower now d f lead lt is next_is =
    let link : IsEntry es (start es d) d (get_or lower d 0) = lead.entry d (omega (arith, f.entries now lt, is)) in
    omega (
      arith,
      ap (sum_by (λ k. k)) next_is,
      sum_by-set (λ (k : ℕ). k) next now (get_or lower d 0) 0
          (omega (arith, lt, f.next_each)),
      link.below,
      is,
    )

-- an entry that is read and is not 0 is one more than a dart
dart_before : (es : List (ℕ × ℕ)) (n : ℕ) (forest : Forest) (next : List ℕ) (now read : ℕ)
    → AreFollowed es n forest next
    → now < n → 0 < get_or next now 0 → read ≡ get_or next now read → suc (read - 1) ≡ get_or next now 0
dart_before es n forest next now read f lt some read_is =
    omega (arith, some, get_or_read next now read (omega (arith, f.next_each, lt)) read_is 0)

-- what a program reads is below n
pub read_met : (n : ℕ) (number : List ℕ) (at to seen : ℕ) → length number ≡ n → to < n → at ≡ to
    → seen ≡ get_or number at seen → seen ≡ get_or number to 0
read_met n number at to seen size lt at_is seen_is =
    get_or_read number at seen (omega (arith, size, lt, at_is)) seen_is 0 ∙ ap (λ (k : ℕ). get_or number k 0) at_is

-- a dart that leads to a vertex that was met, as a program reads it
pub follow_old_read : (es : List (ℕ × ℕ)) (n : ℕ) (forest : Forest) (next lower : List ℕ) (now read to seen : ℕ)
    → AreWithin n es → StandsAt es n forest next now → LeadDown es lower → 0 < get_or next now 0
    → read ≡ get_or next now read
    → to ≡ finish es (read - 1) → seen ≡ get_or forest.number to seen → seen < n
    → StandsAt es n forest (set next now (get_or lower (read - 1) 0)) now
follow_old_read es n forest next lower now read to seen w s lead some read_is to_is seen_is lt =
    let is : suc (read - 1) ≡ get_or next now 0 =
    dart_before es n forest next now read s.followed s.within some read_is in
    let within : finish es (read - 1) < n =
    finish_within n es (read - 1) w (omega (arith, is, s.followed.entries now s.within)) in
    follow_old es n forest next (set next now (get_or lower (read - 1) 0)) lower now
    (read - 1) w s lead is refl (omega
    (arith, lt, read_met n forest.number to (finish es (read - 1)) seen s.grown.number_each within to_is seen_is))

-- a dart that leads to a new vertex, as a program reads it
pub follow_new_read : (es : List (ℕ × ℕ)) (n : ℕ) (forest : Forest) (next lower : List ℕ) (now read to seen : ℕ)
    (larger : Forest) → AreWithin n es → StandsAt es n forest next now
    → LeadDown es lower → 0 < get_or next now 0 → read ≡ get_or next now read
    → to ≡ finish es (read - 1) → seen ≡ get_or forest.number to seen → n ≤ seen
    → larger ≡ with_vertex forest to now ((read - 1) / 2)
    → StandsAt es n larger (set next now (get_or lower (read - 1) 0)) to × StayMet n forest larger
follow_new_read es n forest next lower now read to seen larger w s lead some read_is
    to_is seen_is new made =
    let is : suc (read - 1) ≡ get_or next now 0 =
    dart_before es n forest next now read s.followed s.within some read_is in
    let within : finish es (read - 1) < n =
    finish_within n es (read - 1) w (omega (arith, is, s.followed.entries now s.within)) in
    let h = follow_new es n forest next (set next now (get_or lower (read - 1) 0)) lower now
    (read - 1) larger w s lead is refl
    (omega (
      arith,
      new,
      read_met n forest.number to
          (finish es (read - 1)) seen s.grown.number_each within to_is seen_is,
    ))
    (made ∙ ap (λ (k : ℕ). with_vertex forest k now ((read - 1) / 2)) to_is) in
    (subst (StandsAt es n larger (set next now (get_or lower (read - 1) 0))) (sym to_is) h.0, h.1)

-- fewer darts are left, as a program reads it
pub fewer_read : (es : List (ℕ × ℕ)) (n : ℕ) (forest : Forest) (next lower : List ℕ) (now read : ℕ)
    → StandsAt es n forest next now → LeadDown es lower → 0 < get_or next now 0
    → read ≡ get_or next now read → sum_by (λ k. k) (set next now (get_or lower (read - 1) 0)) < sum_by (λ k. k) next
fewer_read es n forest next lower now read s lead some read_is =
    fewer_left es n forest next (set next now (get_or lower (read - 1) 0)) lower now
    (read - 1) s.followed lead s.within
    (dart_before es n forest next now read s.followed s.within some read_is) refl

-- going up to the parent, as a program reads it
pub go_parent_read : (es : List (ℕ × ℕ)) (n : ℕ) (forest : Forest) (next : List ℕ) (now read parent : ℕ)
    → StandsAt es n forest next now → (get_or forest.parent now 0 ≡ now → 0 < get_or next now 0)
    → read ≡ get_or next now read → read ≡ 0 → parent ≡ get_or forest.parent now parent
    → StandsAt es n forest next parent
go_parent_read es n forest next now read parent s more read_is none parent_is =
    let zero_left : get_or next now 0 ≡ 0 =
    omega (arith, none, get_or_read next now read (omega (arith, s.followed.next_each, s.within)) read_is 0) in
    let up_is : parent ≡ get_or forest.parent now 0 =
    get_or_read forest.parent now parent (omega (arith, s.grown.parent_each, s.within)) parent_is 0 in
    subst (StandsAt es n forest next) (sym up_is)
    (go_parent es n forest next now s zero_left (λ root. omega (arith, more root, zero_left))).0

-- at a root where no dart is left the search rests, as a program reads it
pub rest_read : (es : List (ℕ × ℕ)) (n : ℕ) (forest : Forest) (next : List ℕ) (now read parent : ℕ)
    → StandsAt es n forest next now → read ≡ get_or next now read → read ≡ 0
    → parent ≡ get_or forest.parent now parent → parent ≡ now → Rests es n forest next
rest_read es n forest next now read parent s read_is none parent_is root =
    come_to_rest es n forest next now s
    (omega (arith, none, get_or_read next now read (omega (arith, s.followed.next_each, s.within)) read_is 0))
    (omega (
      arith,
      root,
      get_or_read forest.parent now parent
          (omega (arith, s.grown.parent_each, s.within)) parent_is 0,
    ))

-- before the first vertex is met the search rests
pub rest_first : (es : List (ℕ × ℕ)) (n : ℕ) (entries lower : List ℕ) → AreWithin n es
    → AreChained n es (2 * length es) entries lower
    → Rests es n (no_forest n) entries
rest_first es n entries lower w ch = record {
  grown = record {
    number_each = length-replicate n n;
    parent_each = length-replicate n 0;
    edge_each = length-replicate n 0;
    ordered = λ v lt met. absurd (omega (arith, met, unmet v lt));
    numbered = λ i lt. absurd (omega arith);
    all = omega (
      arith,
      count_all n (is_unmet n (replicate n n))
          (λ v lt. unmet_true n (replicate n n) v (omega (arith, unmet v lt))),
    );
    placed = λ v lt met. absurd (omega (arith, met, unmet v lt));
  };
  followed = record {
    next_each = ch.entry_each;
    entries = λ v lt. (ch.entry_of v lt).below;
    starts = λ v d lt e. (ch.entry_of v lt).starts d e;
    met = λ d lt le. absurd (beyond d lt le);
  };
  done = λ v lt met. absurd (omega (arith, met, unmet v lt));
}
  where
    -- no vertex has a number below n
    unmet : (v : ℕ) → v < n → get_or (replicate n n) v 0 ≡ n
    unmet v lt = get_or-replicate {A = ℕ} n v n 0 lt

    -- no dart lies at or above the entry of the vertex that it starts at
    beyond : (d : ℕ) → d < 2 * length es → get_or entries (start es d) 0 ≤ d → ⊥
    beyond d lt le = (ch.entry_of (start es d) (start_within n es d w lt)).highest d le lt refl

-- a search through a forest of no vertex rests
pub rest_begins : (es : List (ℕ × ℕ)) (n : ℕ) (forest : Forest) (next lower : List ℕ) → AreWithin n es
    → AreChained n es (2 * length es) next lower → forest ≡ no_forest n → Rests es n forest next
rest_begins es n forest next lower w ch none =
    subst (λ (g : Forest). Rests es n g next) (sym none) (rest_first es n next lower w ch)

-- the list of a table of darts leads down
pub leads_down : (es : List (ℕ × ℕ)) (n : ℕ) (entries lower : List ℕ) → AreChained n es (2 * length es) entries lower
    → LeadDown es lower
leads_down es n entries lower ch = record { each = ch.lower_each; entry = ch.lower_of }

-- a search that rests and has met all vertices has made a search forest
pub forest_made : (es : List (ℕ × ℕ)) (n : ℕ) (forest : Forest) (next : List ℕ) → AreWithin n es
    → Rests es n forest next → ((v : ℕ) → v < n → get_or forest.number v 0 < n)
    → IsSearchForest es n forest
forest_made es n forest next w r all = record {
  placed = λ v lt. r.grown.placed v lt (all v lt);
  upright = λ d lt. let s : start es d < n = start_within n es d w lt in
      (r.followed.met d lt (omega (arith, r.done (start es d) s (all (start es d) s)))).2;
}

-- the order goes on where a vertex more is met
pub further_push : (forest larger : Forest) (v x e : ℕ) → larger ≡ with_vertex forest v x e → IsFurther forest larger
further_push forest larger v x e made = record {
  longer = omega (arith, ap (λ (g : Forest). length g.order) made, length_push forest.order v);
  front = λ i lt. ap (λ (g : Forest). get_or g.order i 0) made
      ∙ get_or_append_left forest.order (v ∷ []) 0 i lt;
}

-- an order that goes on twice
pub further_more : (forest larger largest : Forest) → IsFurther forest larger → IsFurther larger largest
    → IsFurther forest largest
further_more forest larger largest f g = record {
  longer = omega (arith, f.longer, g.longer);
  front = λ i lt. g.front i (omega (arith, lt, f.longer)) ∙ f.front i lt;
}

-- the order goes on as it was
pub further_same : (forest : Forest) → IsFurther forest forest
further_same forest = record { longer = omega arith; front = λ i lt. refl }

-- a forest of no vertex has a place for each vertex
pub no_forest-IsVertex : (forest : Forest) (n v : ℕ) → forest ≡ no_forest n → v < n → IsVertex forest v
no_forest-IsVertex forest n v none lt = (
  omega (arith, ap (λ (g : Forest). length g.number) none, length-replicate {A = ℕ} n n, lt),
  omega (arith, ap (λ (g : Forest). length g.parent) none, length-replicate {A = ℕ} n 0, lt),
  omega (arith, ap (λ (g : Forest). length g.edge) none, length-replicate {A = ℕ} n 0, lt),
)

-- a forest with one vertex more has a place for the same vertices
pub with_vertex-IsVertex : (forest larger : Forest) (v x e w : ℕ) → larger ≡ with_vertex forest v x e
    → IsVertex forest w → IsVertex larger w
with_vertex-IsVertex forest larger v x e w made lt = (
  omega (
    arith,
    ap (λ (g : Forest). length g.number) made,
    length-set forest.number v (length forest.order),
    lt.0,
  ),
  omega (arith, ap (λ (g : Forest). length g.parent) made, length-set forest.parent v x, lt.1),
  omega (arith, ap (λ (g : Forest). length g.edge) made, length-set forest.edge v e, lt.2),
)

-- a forest that a search has grown has a place for each vertex
pub grown-IsVertex : (es : List (ℕ × ℕ)) (n : ℕ) (forest : Forest) (v : ℕ) → IsGrown es n forest → v < n
    → IsVertex forest v
grown-IsVertex es n forest v g lt = (
  omega (arith, g.number_each, lt),
  omega (arith, g.parent_each, lt),
  omega (arith, g.edge_each, lt),
)

-- a forest is told by its four lists
pub same_forest : (f g : Forest) → f.number ≡ g.number → f.parent ≡ g.parent → f.edge ≡ g.edge → f.order ≡ g.order
    → f ≡ g
same_forest f g numbers parents edges orders =
    ap (λ (xs : List ℕ). forest_with xs f.parent f.edge f.order) numbers
    ∙ ap (λ (xs : List ℕ). forest_with g.number xs f.edge f.order) parents
    ∙ ap (λ (xs : List ℕ). forest_with g.number g.parent xs f.order) edges
    ∙ ap (λ (xs : List ℕ). forest_with g.number g.parent g.edge xs) orders
