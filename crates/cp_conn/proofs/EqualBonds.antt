-- Bonds of equal degrees: along them the edges of the one pole are those of the other, and they can be read from
-- either side (Bläsius, Fink, Rutter 2021).
use Rattle.std.proofs.Common.{◌≡◌, ◌≢◌, ℕ, length, sym, ap, ◌∙◌, subst, inr, ⊎_elim, arith}
use Rattle.std.specs.List.{Contains}
use Rattle.cp_lists.specs.CyclicLists.{Has, Distinct}
use Rattle.cp_lists.proofs.DistinctLists.{Has-Contains}
use Rattle.cp_lists.proofs.FilteredLists.{filter-Distinct}
use Rattle.cp_conn.specs.Bonds.{ConnectedWithout, IsBond, GoesOn, IsAlong}
use Rattle.cp_conn.specs.NamedGraphs.{NamedGraph, ends_at, edges_at, far}
use Rattle.cp_conn.proofs.Bonds.{ConnectedWithout-swap, ConnectedWithout-sym, ConnectedWithout-trans, ConnectedWithout-second, GoesOn-apart, GoesOn-back, GoesOn-within, IsAlong-first_onward, along_apart, first_onward}
use Rattle.cp_conn.proofs.DistinctSubsets.{injected_full}
use Rattle.cp_conn.proofs.NamedGraphs.{edges_at-Contains, far_back}

module _ (g : NamedGraph) (u v : ℕ) (bond : IsBond g u v) (once : Distinct g.edges)
    (equal : length (edges_at g u) ≡ length (edges_at g v)) where
  -- each edge of v is what some edge of u goes on as
  pub along_onto : (along : ℕ → ℕ) → IsAlong g u v along → (f : ℕ) → Contains (edges_at g v) f
      → (e : ℕ) × Contains (edges_at g u) e × (along e ≡ f)
  along_onto along is f c =
      let from : (e : ℕ) × Has e (edges_at g u) × (along e ≡ f) =
      injected_full along (edges_at g u) (edges_at g v)
      (filter-Distinct (ends_at g u) g.edges once)
      (λ e h.
      let ce : Contains (edges_at g u) e = (Has-Contains e (edges_at g u)).0 h in
      (Has-Contains (along e) (edges_at g v)).1 (GoesOn-within g u v e (along e) ce (is e ce)))
      (λ e k he hk same.
      along_apart g u v bond along is e k
      ((Has-Contains e (edges_at g u)).0 he) ((Has-Contains k (edges_at g u)).0 hk) same)
      (omega (arith, equal)) f ((Has-Contains f (edges_at g v)).1 c) in
      (from.0, (Has-Contains from.0 (edges_at g u)).0 from.1, from.2)

  -- each edge of u goes on in one way
  pub along_only : (along : ℕ → ℕ) → IsAlong g u v along → (e f : ℕ) → Contains (edges_at g u) e → GoesOn g u v e f
      → along e ≡ f
  along_only along is e f c on =
      let from : (k : ℕ) × Contains (edges_at g u) k × (along k ≡ f) =
      along_onto along is f (GoesOn-within g u v e f c on) in
      ap along
      (sym
      (GoesOn-apart g u v bond from.0 e f from.1 c (subst (GoesOn g u v from.0) from.2 (is from.0 from.1)) on))
      ∙ from.2

  -- an edge of v comes from some edge of u
  comes_from : (f : ℕ) → Contains (edges_at g v) f → (e : ℕ) × Contains (edges_at g u) e × GoesOn g u v e f
  comes_from f c =
      let from : (e : ℕ) × Contains (edges_at g u) e × (first_onward g u v e ≡ f) =
      along_onto (first_onward g u v) (IsAlong-first_onward g u v bond) f c in
      (from.0, from.1, subst (GoesOn g u v from.0) from.2 (IsAlong-first_onward g u v bond from.0 from.1))

  -- an edge of v that does not end at u comes from an edge of u into its component
  comes_through : (f : ℕ) → Contains (edges_at g v) f → far g v f ≢ u
      → (e : ℕ) × Contains (edges_at g u) e × (far g u e ≢ v) × ConnectedWithout g u v (far g u e) (far g v f)
  comes_through f c off =
      let from : (e : ℕ) × Contains (edges_at g u) e × GoesOn g u v e f = comes_from f c in
      ⊎_elim
      (λ h. absurd (off
      (ap (far g v) h.1 ∙ ap (λ (w : ℕ). far g w from.0) (sym h.0)
      ∙ far_back g u from.0 (edges_at-Contains g u from.0 from.1).1)))
      (λ h. (from.0, from.1, h.0, h.2))
      from.2

  -- a bond of equal degrees is a bond from the other side
  pub bond_back : IsBond g v u
  bond_back = record {
    differ = λ same. bond.differ (sym same);
    no_loop = λ f c loop.
        let through : (e : ℕ) × Contains (edges_at g u) e × (far g u e ≢ v) × ConnectedWithout g u v (far g u e)
        (far g v f) =
        comes_through f c (λ at. bond.differ (sym at ∙ loop)) in
        through.2
        (ConnectedWithout-second g u v (far g u through.0)
        (subst (ConnectedWithout g u v (far g u through.0)) loop through.3));
    one_each = λ f k cf ck off c.
        let through : (e : ℕ) × Contains (edges_at g u) e × (far g u e ≢ v) × ConnectedWithout g u v (far g u e)
        (far g v f) =
        comes_through f cf off in
        let along : ℕ → ℕ = first_onward g u v in
        let is : IsAlong g u v along = IsAlong-first_onward g u v bond in
        sym (along_only along is through.0 f through.1 (inr (through.2, cf, through.3)))
        ∙ along_only along is through.0 k through.1 (inr (
          through.2,
          ck,
          ConnectedWithout-trans g u v (far g u through.0) (far g v f) (far g v k) through.3
              (ConnectedWithout-swap g v u (far g v f) (far g v k) c),
        ));
    reach = λ f c off.
        let through : (e : ℕ) × Contains (edges_at g u) e × (far g u e ≢ v) × ConnectedWithout g u v (far g u e)
        (far g v f) =
        comes_through f c off in (
          through.0,
          through.1,
          ConnectedWithout-swap g u v (far g v f) (far g u through.0)
              (ConnectedWithout-sym g u v (far g u through.0) (far g v f) through.3),
        );
  }

-- where both poles have as many edges, to go along a bond and back leads each edge of the one pole to itself
pub along_back : (g : NamedGraph) (u v : ℕ) → IsBond g u v → Distinct g.edges
    → length (edges_at g u) ≡ length (edges_at g v) → (along back : ℕ → ℕ) → IsAlong g u v along → IsAlong g v u back
    → (e : ℕ) → Contains (edges_at g u) e → back (along e) ≡ e
along_back g u v bond once equal along back there and_back e c =
    along_only g v u (bond_back g u v bond once equal) once (sym equal) back and_back (along e) e
    (GoesOn-within g u v e (along e) c (there e c))
    (GoesOn-back g u v bond e (along e) c (there e c))

-- where both bonds have the same number of edges, going back and along again leads to each edge of v itself
pub back_along : (g : NamedGraph) (u v : ℕ) → IsBond g u v → Distinct g.edges
    → length (edges_at g u) ≡ length (edges_at g v) → (along back : ℕ → ℕ) → IsAlong g u v along → IsAlong g v u back
    → (f : ℕ) → Contains (edges_at g v) f → along (back f) ≡ f
back_along g u v bond once equal along back there and_back f c =
    along_back g v u (bond_back g u v bond once equal) once (sym equal) back along and_back there f c
