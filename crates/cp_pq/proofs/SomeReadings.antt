-- Each node has a reading by a licence that allows a bit of each of its vars.
use Rattle.std.proofs.Common.{◌≡◌, ℕ, ◌<◌, Bool, true, false, List, [], ◌∷◌, ◌++◌, map, reverse, sym, ◌∙◌, subst}
use Rattle.std.specs.Prelude.{nat_lt}
use Rattle.std.specs.List.{list_all}
use Rattle.std.proofs.lemmas.Bool.{and_parts, ltb-true}
use Rattle.std.proofs.lemmas.List.{reverse-append}
use Rattle.std.proofs.lemmas.List.Sorted.{IsPermutation-refl}
use Rattle.cp_pq.specs.declared.node.Node.{Node}
use Rattle.cp_pq.specs.declared.node.Node.TheOpen.{Node-F}
use Rattle.cp_pq.specs.declared.node.Node.TheViews.{roll-Node}
use Rattle.cp_pq.specs.declared.node.Node.TheFolds.{map-Node, ind-Node}
use Rattle.cp_pq.specs.declared.node.Node.TheVariants.{Q, rolls-Leaf, rolls-P, rolls-Q}
use Rattle.cp_pq.specs.Nodes.{has_vars_below}
use Rattle.cp_pq.specs.Readings.{Reads, ReadsAll, leaf, any_order, forward, backward, none, more}
use Rattle.cp_pq.proofs.NodeTests.{below_P, below_Q}
use Rattle.cp_pq.proofs.ReadingLaws.{ReadsAll_cons, ReadsAll_join, one_ReadsAll}

-- a bit of each var below m is allowed
abbrev pub AllowsBelow : ℕ → (ℕ → Bool → Bool) → Type 0
AllowsBelow m may = (v : ℕ) → v < m → (b : Bool) × (may v b ≡ true)

module _ (may : ℕ → Bool → Bool) where
  -- a row that has a reading has one from its end
  pub row_back : (ks : List Node) (xs : List ℕ) → ReadsAll may ks xs → (ys : List ℕ) × ReadsAll may (reverse ks) ys
  row_back [] xs r = ([], none)
  row_back (k ∷ ks) xs r =
      let h = ReadsAll_cons may k ks xs r in
      let g = row_back ks h.1 h.4 in (
        g.0 ++ h.0,
        subst (λ z. ReadsAll may z (g.0 ++ h.0)) (sym (reverse-append (k ∷ []) ks))
            (ReadsAll_join may (reverse ks) (k ∷ []) g.0 h.0 g.1 (one_ReadsAll may k h.0 h.3)),
      )

  module _ (m : ℕ) (allows : AllowsBelow m may) where
    -- a node with vars below m has a reading
    abbrev HasReading : Node → Type 0
    HasReading n = has_vars_below m n ≡ true → (xs : List ℕ) × Reads may n xs

    -- kids with readings have one as a row
    kids_reading : (es : List ((n : Node) × HasReading n)) → list_all (has_vars_below m) (map (λ e. e.0) es) ≡ true
        → (xs : List ℕ) × ReadsAll may (map (λ e. e.0) es) xs
    kids_reading [] h = ([], none)
    kids_reading (e ∷ es) h =
        let g = and_parts (has_vars_below m e.0) (list_all (has_vars_below m) (map (λ d. d.0) es)) h in
        let a = e.1 g.0 in let b = kids_reading es g.1 in
        (a.0 ++ b.0, more e.0 (map (λ d. d.0) es) a.0 b.0 a.1 b.1)

    -- each node with vars below m has a reading
    pub some_reading : (n : Node) → HasReading n
    some_reading = ind-Node HasReading step
      where
        Q_reading : (v : ℕ) (ks : List Node) (xs : List ℕ) (b : Bool) → may v b ≡ true → ReadsAll may ks xs
            → (ys : List ℕ) × Reads may (Q v ks) ys
        Q_reading v ks xs false e r = (xs, forward v ks xs e r)
        Q_reading v ks xs true e r = let g = row_back ks xs r in (g.0, backward v ks g.0 e g.1)

        step : (x : Node-F Node) (y : Node-F ((n : Node) × HasReading n))
            → map-Node ((n : Node) × HasReading n) Node (λ e. e.0) y ≡ x
            → HasReading (roll-Node x)
        step x (Node-F.Leaf v) e =
            subst (λ z. HasReading (roll-Node z)) e (subst HasReading (sym (rolls-Leaf v)) (λ h. (v ∷ [], leaf v)))
        step x (Node-F.P o es) e =
            let ks = map (λ d. d.0) es in
            subst (λ z. HasReading (roll-Node z)) e (subst HasReading (sym (rolls-P o ks))
            (λ h. let g = kids_reading es (sym (below_P m o ks) ∙ h) in
            (g.0, any_order o ks ks g.0 (IsPermutation-refl ks) g.1)))
        step x (Node-F.Q v es) e =
            let ks = map (λ d. d.0) es in
            subst (λ z. HasReading (roll-Node z)) e (subst HasReading (sym (rolls-Q v ks))
            (λ h. let g = and_parts (nat_lt v m) (list_all (has_vars_below m) ks) (sym (below_Q m v ks) ∙ h) in
            let r = kids_reading es g.1 in let b = allows v (ltb-true v m g.0) in
            Q_reading v ks r.0 b.0 b.1 r.1))

    -- so has a row
    pub some_row : (ks : List Node) → list_all (has_vars_below m) ks ≡ true → (xs : List ℕ) × ReadsAll may ks xs
    some_row [] h = ([], none)
    some_row (k ∷ ks) h =
        let g = and_parts (has_vars_below m k) (list_all (has_vars_below m) ks) h in
        let a = some_reading k g.0 in let b = some_row ks g.1 in
        (a.0 ++ b.0, more k ks a.0 b.0 a.1 b.1)
