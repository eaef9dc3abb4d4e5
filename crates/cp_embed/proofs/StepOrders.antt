-- The orders that the rest can have after a vertex is added to a prefix.
use Rattle.std.proofs.Common.{◌≡◌, ℕ, ◌*◌, ◌⊎◌, ◌↔◌, List, ◌∷◌, ◌++◌, append-nil, sym, subst, inl, inr, ⊎_elim, arith}
use Rattle.cp_lists.specs.CyclicLists.{Has}
use Rattle.cp_lists.specs.Rows.{flat}
use Rattle.cp_lists.specs.Turns.{IsTurn}
use Rattle.cp_lists.proofs.DistinctLists.{Distinct-apart, Distinct-append, Distinct-append_left, Distinct-append_right, Has-append_cases, Has-append_left, Has-append_right, Lacks-from, has_lacks}
use Rattle.cp_lists.proofs.TurnedLists.{Has-of_turn, turn-Distinct, turn-Has}
use Rattle.cp_faces.specs.Twins.{twin}
use Rattle.cp_maps.specs.Genus.{CanBeFlat, IsFlat}
use Rattle.cp_maps.specs.Gluings.{Grows}
use Rattle.cp_maps.specs.Maps.{IsMapOf, next_by}
use Rattle.cp_maps.specs.Mirrors.{mirror}
use Rattle.cp_maps.proofs.MapLists.{IsMapOf-some}
use Rattle.cp_embed.specs.Arrangements.{IsArrangementOf}
use Rattle.cp_embed.specs.Steps.{StandsBetween}
use Rattle.cp_embed.proofs.Lists.{Has-mirror}
use Rattle.cp_embed.proofs.Steps.{step-IsFlat}

-- a vertex with edges ins to a connected prefix and outs to the rest, whose list is r and then w; h says that the
-- lists have no dart in common
module _ (e : ℕ) (h : ℕ → ℕ) (r i o : ℕ) (ins outs zs : List ℕ) (group : List (List ℕ)) (w : List ℕ)
    (is : IsMapOf (2 * e) h ((ins ++ outs) ∷ (r ∷ w) ∷ zs ∷ group)) (grows : Grows zs group)
    (root : Has (twin r) (zs ++ flat group)) (one : Has i ins) (other : Has o outs)
    (of_ins : (d : ℕ) → Has d ins → Has (twin d) (zs ++ flat group)) (of_outs : (d : ℕ) → Has d outs → Has (twin d) w)
    (of_w : (d : ℕ) → Has d w → Has (twin d) (zs ++ flat group) ⊎ Has (twin d) outs) where
  -- all lists but that of the vertex
  abbrev others : List ℕ
  others = (r ∷ w) ++ (zs ++ flat group)

  -- the prefix has no dart of w
  apart : (d : ℕ) → Has d (zs ++ flat group) → Has d w → ⊥
  apart d k l = has_lacks d (zs ++ flat group) k
      (Distinct-apart d (r ∷ w) (zs ++ flat group) (Distinct-append_right (ins ++ outs) others is.once) (inr l))

  -- each order of the vertex has a map
  map_of : (row : List ℕ) → IsArrangementOf row (ins ++ outs)
      → IsMapOf (2 * e) (next_by (row ∷ (r ∷ w) ∷ zs ∷ group)) (row ∷ (r ∷ w) ∷ zs ∷ group)
  map_of row a = IsMapOf-some (2 * e) h ((ins ++ outs) ∷ (r ∷ w) ∷ zs ∷ group) (row ∷ (r ∷ w) ∷ zs ∷ group) is
      (Distinct-append row others a.distinct (Distinct-append_right (ins ++ outs) others is.once)
      (λ d k. Distinct-apart d (ins ++ outs) others is.once ((a.items d).0 k)))
      (λ d k. ⊎_elim (λ l. Has-append_left d (ins ++ outs) others ((a.items d).0 l))
      (λ l. Has-append_right d (ins ++ outs) others l) (Has-append_cases d row others k))

  -- what step asks
  by_step : (f : ℕ → ℕ) (row : List ℕ) → IsMapOf (2 * e) f (row ∷ (r ∷ w) ∷ zs ∷ group)
      → IsArrangementOf row (ins ++ outs) → IsFlat e f ↔
      ((x : StandsBetween (zs ++ flat group) row w) × CanBeFlat e ((r ∷ (x.front ++ (x.ins ++ x.behind))) ∷ zs ∷ group))
  by_step f row is_f a = step-IsFlat e f r i o zs group row w is_f grows root
      ((a.items i).1 (Has-append_left i ins outs one)) (of_ins i one)
      (λ d k. ⊎_elim (λ l. inl (of_ins d l)) (λ l. inr (of_outs d l)) (Has-append_cases d ins outs ((a.items d).0 k)))
      (λ d k. ⊎_elim (λ l. inl l) (λ l. inr ((a.items (twin d)).1 (Has-append_right (twin d) ins outs l))) (of_w d k))
      ((a.items o).1 (Has-append_right o ins outs other)) (of_outs o other)

  -- what is read out of the prefix are ins
  ins_read : (row : List ℕ) (x : StandsBetween (zs ++ flat group) row w) → IsArrangementOf row (ins ++ outs)
      → IsArrangementOf x.ins ins
  ins_read row x a = record {
    distinct = Distinct-append_left x.ins x.outs (turn-Distinct row (x.ins ++ x.outs) x.turn a.distinct);
    items = λ d. (
      λ k. ⊎_elim (λ l. l) (λ l. absurd (apart (twin d) (x.into d k) (of_outs d l)))
          (Has-append_cases d ins outs ((a.items d).0
          (Has-of_turn row (x.ins ++ x.outs) d x.turn (Has-append_left d x.ins x.outs k)))),
      λ k. ⊎_elim (λ l. l) (λ l. absurd (apart (twin d) (of_ins d k) (in_run d l)))
          (Has-append_cases d x.ins x.outs
          (turn-Has row (x.ins ++ x.outs) d x.turn ((a.items d).1 (Has-append_left d ins outs k)))),
    );
  }
    where
      in_run : (d : ℕ) → Has d x.outs → Has (twin d) w
      in_run d l = subst (Has (twin d)) (sym x.whole)
          (Has-append_right (twin d) x.front (mirror x.outs ++ x.behind)
          (Has-append_left (twin d) (mirror x.outs) x.behind (Has-mirror d x.outs l)))

  -- and the others outs
  outs_read : (row : List ℕ) (x : StandsBetween (zs ++ flat group) row w) → IsArrangementOf row (ins ++ outs)
      → IsArrangementOf x.outs outs
  outs_read row x a = record {
    distinct = Distinct-append_right x.ins x.outs (turn-Distinct row (x.ins ++ x.outs) x.turn a.distinct);
    items = λ d. (
      λ k. ⊎_elim (λ l. absurd (apart (twin d) (of_ins d l) (in_run d k))) (λ l. l)
          (Has-append_cases d ins outs ((a.items d).0
          (Has-of_turn row (x.ins ++ x.outs) d x.turn (Has-append_right d x.ins x.outs k)))),
      λ k. ⊎_elim (λ l. absurd (apart (twin d) (x.into d l) (of_outs d k))) (λ l. l)
          (Has-append_cases d x.ins x.outs
          (turn-Has row (x.ins ++ x.outs) d x.turn ((a.items d).1 (Has-append_right d ins outs k)))),
    );
  }
    where
      in_run : (d : ℕ) → Has d x.outs → Has (twin d) w
      in_run d l = subst (Has (twin d)) (sym x.whole)
          (Has-append_right (twin d) x.front (mirror x.outs ++ x.behind)
          (Has-append_left (twin d) (mirror x.outs) x.behind (Has-mirror d x.outs l)))

  -- two arrangements one behind the other
  both : (us vs : List ℕ) → IsArrangementOf us ins → IsArrangementOf vs outs → IsArrangementOf (us ++ vs) (ins ++ outs)
  both us vs a b = record {
    distinct = Distinct-append us vs a.distinct b.distinct
        (λ d k. Lacks-from d vs (λ l. apart (twin d) (of_ins d ((a.items d).0 k)) (of_outs d ((b.items d).0 l))));
    items = λ d. (
      λ k. ⊎_elim (λ l. Has-append_left d ins outs ((a.items d).0 l))
          (λ l. Has-append_right d ins outs ((b.items d).0 l)) (Has-append_cases d us vs k),
      λ k. ⊎_elim (λ l. Has-append_left d us vs ((a.items d).1 l)) (λ l. Has-append_right d us vs ((b.items d).1 l))
          (Has-append_cases d ins outs k),
    );
  }

  -- with a list of the vertex that passes the test good, which turns do not change: the orders after the step are
  -- those before it,
  -- with a run of ins exchanged for outs
  pub step_orders : (good : List ℕ → Type 0) → ((us vs : List ℕ) → IsTurn us vs → good us → good vs)
      → ((row : List ℕ) × IsArrangementOf row (ins ++ outs) × good row × CanBeFlat e (row ∷ (r ∷ w) ∷ zs ∷ group))
      ↔ ((us : List ℕ) × (vs : List ℕ) × (front : List ℕ) × (behind : List ℕ) × IsArrangementOf us ins ×
      IsArrangementOf vs outs × good (us ++ vs) × (w ≡ front ++ (mirror vs ++ behind)) × CanBeFlat e
      ((r ∷ (front ++ (us ++ behind))) ∷ zs ∷ group))
  step_orders good turns = (
    λ p.
        let row : List ℕ = p.0 in
        let a : IsArrangementOf row (ins ++ outs) = p.1 in
        let q : (x : StandsBetween (zs ++ flat group) row w) × CanBeFlat e
        ((r ∷ (x.front ++ (x.ins ++ x.behind))) ∷ zs ∷ group) = (by_step p.3.0 row p.3.1 a).0 p.3.2 in
        let x : StandsBetween (zs ++ flat group) row w = q.0 in (
          x.ins,
          x.outs,
          x.front,
          x.behind,
          ins_read row x a,
          outs_read row x a,
          turns row
              (x.ins ++ x.outs) x.turn p.2,
          x.whole,
          q.1,
        ),
    λ p.
        let us : List ℕ = p.0 in
        let vs : List ℕ = p.1 in
        let a : IsArrangementOf (us ++ vs) (ins ++ outs) = both us vs p.4 p.5 in
        let is_f : IsMapOf (2 * e) (next_by ((us ++ vs) ∷ (r ∷ w) ∷ zs ∷ group))
        ((us ++ vs) ∷ (r ∷ w) ∷ zs ∷ group) = map_of (us ++ vs) a in
        let x : StandsBetween (zs ++ flat group) (us ++ vs) w = record {
          ins = us;
          outs = vs;
          front = p.2;
          behind = p.3;
          turn = (0, omega arith, sym (append-nil (us ++ vs)));
          whole = p.7;
          into = λ d k. of_ins d ((p.4.items d).0 k);
        } in (
          us ++ vs,
          a,
          p.6,
          (
            next_by ((us ++ vs) ∷ (r ∷ w) ∷ zs ∷ group),
            is_f,
            (by_step (next_by ((us ++ vs) ∷ (r ∷ w) ∷ zs ∷ group)) (us ++ vs) is_f a).1 (x, p.8),
          ),
        ),
  )
