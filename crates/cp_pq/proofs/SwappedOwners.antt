-- Sides and owners of P-nodes where the leaves of a set are exchanged for others.
use Rattle.std.proofs.Common.{◌≡◌, ℕ, ◌⊎◌, ◌↔◌, Option, Some, None, List, [], ◌∷◌, ◌++◌, inl, inr, ⊎_elim, refl, sym}
use Rattle.std.proofs.Common.{ap, ◌∙◌, subst, subst₂}
use Rattle.cp_lists.specs.CyclicLists.{Has, Lacks}
use Rattle.cp_lists.proofs.DistinctLists.{Lacks-from, has_lacks, Has-append_left, Has-append_right, Has-append_cases}
use Rattle.cp_pq.specs.declared.node.Node.{Node}
use Rattle.cp_pq.specs.declared.node.Node.TheVariants.{P, Q}
use Rattle.cp_pq.specs.declared.frame.Label.{Label}
use Rattle.cp_pq.specs.declared.frame.Frame.{Frame}
use Rattle.cp_pq.specs.Nodes.{leaves, all_leaves, IsKid, IsIn, itself, under_P, under_Q}
use Rattle.cp_pq.specs.Owners.{AreOnOneSide, IsExchangedFor, ExchangesOwners}
use Rattle.cp_pq.specs.Keeping.{IsInRow}
use Rattle.cp_pq.specs.Frames.{node_of, fill}
use Rattle.cp_pq.specs.Holes.{IsInQ, IsPartAt}
use Rattle.cp_pq.proofs.NodeLayers.{P_P, P_Q, leaves_P, leaves_Q, all_leaves_one, all_leaves_append}
use Rattle.cp_pq.proofs.NodesIn.{kid_cons, kid_cases, kid_append_left, kid_append_right, kid_leaf, in_P, in_Q}
use Rattle.cp_pq.proofs.NodesIn.{in_row_one, one_in_row, in_row_cases, in_row_left, in_row_right, in_row_P, in_row_Q}
use Rattle.cp_pq.proofs.FilledRows.{beside_leaves}

-- the exchange the other way
exchanged_back : (set for : List ℕ) (a c : ℕ) → IsExchangedFor set for a c → IsExchangedFor for set c a
exchanged_back set for a c = ⊎_elim (λ h. inl (sym h.0, h.2, h.1)) (λ h. inr (h.1, h.0))

-- an exchanged leaf of the first list is one of the second
abbrev Swaps : List ℕ → List ℕ → List ℕ → List ℕ → Type 0
Swaps set for xs ys = (a c : ℕ) → IsExchangedFor set for a c → Has a xs → Has c ys

-- no leaf of the list is exchanged
abbrev IsApart : List ℕ → List ℕ → List ℕ → Type 0
IsApart set for xs = (x : ℕ) → Has x xs → Lacks x set × Lacks x for

-- what is not exchanged stays
apart_swaps : (set for xs : List ℕ) → IsApart set for xs → Swaps set for xs xs
apart_swaps set for xs apart a c e h =
    ⊎_elim (λ g. subst (λ z. Has z xs) g.0 h) (λ g. absurd (has_lacks a set g.0 (apart a h).0)) e

-- nor is it the other way
apart_back : (set for xs : List ℕ) → IsApart set for xs → IsApart for set xs
apart_back set for xs apart x h = let g = apart x h in (g.1, g.0)

-- lists one behind the other
append_swaps : (set for xs ys us vs : List ℕ) → Swaps set for xs ys → Swaps set for us vs
    → Swaps set for (xs ++ us) (ys ++ vs)
append_swaps set for xs ys us vs f g a c e h =
    ⊎_elim (λ x. Has-append_left c ys vs (f a c e x)) (λ x. Has-append_right c ys vs (g a c e x))
    (Has-append_cases a xs us h)

-- the leaves of a row round another
round_leaves : (a ks b : List Node) → all_leaves (a ++ (ks ++ b)) ≡ all_leaves a ++ (all_leaves ks ++ all_leaves b)
round_leaves a ks b = all_leaves_append a (ks ++ b) ∙ ap (λ z. all_leaves a ++ z) (all_leaves_append ks b)

-- a row with what is exchanged in it
round_swaps : (set for : List ℕ) (a ks js b : List Node) → IsApart set for (all_leaves a)
    → IsApart set for (all_leaves b)
    → Swaps set for (all_leaves ks) (all_leaves js)
    → Swaps set for (all_leaves (a ++ (ks ++ b))) (all_leaves (a ++ (js ++ b)))
round_swaps set for a ks js b ea eb f =
    subst₂ (Swaps set for) (sym (round_leaves a ks b)) (sym (round_leaves a js b))
    (append_swaps set for (all_leaves a) (all_leaves a) (all_leaves ks ++ all_leaves b) (all_leaves js ++ all_leaves b)
    (apart_swaps set for (all_leaves a) ea)
    (append_swaps set for (all_leaves ks) (all_leaves js) (all_leaves b) (all_leaves b) f
    (apart_swaps set for (all_leaves b) eb)))

-- each kid of the first row has one in the second with its leaves exchanged
abbrev SwapsKids : List ℕ → List ℕ → List Node → List Node → Type 0
SwapsKids set for xs ys = (k : Node) → IsKid k xs → (j : Node) × IsKid j ys × Swaps set for (leaves k) (leaves j)

-- leaves on one side stay on one side
sides_swapped : (set for : List ℕ) (xs ys : List Node) → SwapsKids set for xs ys
    → Swaps for set (all_leaves ys) (all_leaves xs)
    → (a b c d : ℕ) → IsExchangedFor set for a c → IsExchangedFor set for b d → AreOnOneSide xs a b
    → AreOnOneSide ys c d
sides_swapped set for xs ys kids back a b c d e1 e2 = ⊎_elim
    (λ h. let g = kids h.0 h.1 in inl (g.0, g.1, g.2 a c e1 h.2, g.2 b d e2 h.3))
    (λ h. inr (
      Lacks-from c (all_leaves ys) (λ m. has_lacks a (all_leaves xs) (back c a (exchanged_back set for a c e1) m) h.0),
      Lacks-from d (all_leaves ys) (λ m. has_lacks b (all_leaves xs) (back d b (exchanged_back set for b d e2) m) h.1),
    ))

-- kids of which nothing is exchanged
apart_kids : (set for : List ℕ) (es : List Node) → IsApart set for (all_leaves es) → SwapsKids set for es es
apart_kids set for es apart k h = (k, h, apart_swaps set for (leaves k) (λ x m. apart x (kid_leaf x k es h m)))

-- kids round one kid that is changed
round_kids : (set for : List ℕ) (a b : List Node) (k j : Node) → IsApart set for (all_leaves a)
    → IsApart set for (all_leaves b)
    → Swaps set for (leaves k) (leaves j) → SwapsKids set for (a ++ k ∷ b) (a ++ j ∷ b)
round_kids set for a b k j ea eb f i h = ⊎_elim
    (λ g. let r = apart_kids set for a ea i g in (r.0, kid_append_left r.0 a (j ∷ b) r.1, r.2))
    (λ g. ⊎_elim
    (λ e. (j, (a, b, refl), subst (λ z. Swaps set for (leaves z) (leaves j)) e f))
    (λ x. let r = apart_kids set for b eb i x in
    (r.0, kid_append_right r.0 a (j ∷ b) (j ∷ r.1.0, r.1.1, ap (λ z. j ∷ z) r.1.2), r.2))
    (kid_cons i k b g))
    (kid_cases i a (k ∷ b) h)

module _ (set : List ℕ) (node : Node) where
  -- the leaves that come for those of the set
  abbrev for : List ℕ
  for = leaves node

  -- the set stands on one side of the old P-node, and the sides are the same but for the exchange
  abbrev HasSides : List Node → List Node → Type 0
  HasSides old_kids kids = ((a b : ℕ) → Has a set → Has b set → AreOnOneSide old_kids a b)
      × ((a b c d : ℕ) → IsExchangedFor set for a c → IsExchangedFor set for b d
      → AreOnOneSide old_kids a b ↔ AreOnOneSide kids c d)

  -- a row in which the leaves of the set and the P-nodes are exchanged
  record Swapped (ks js : List Node) : Type 0 where
    forth : Swaps set for (all_leaves ks) (all_leaves js)
    back : Swaps for set (all_leaves js) (all_leaves ks)
    has_set : (x : ℕ) → Has x set → Has x (all_leaves ks)
    owners : (owner : ℕ) (kids : List Node) → IsInRow (P owner kids) js
        → IsIn (P owner kids) node ⊎ ((old_kids : List Node) × IsInRow (P owner old_kids) ks × HasSides old_kids kids)

  -- a P-node beside the hole
  beside_sides : (es : List Node) → IsApart set for (all_leaves es) → HasSides es es
  beside_sides es apart = (
    λ a b x y. inr (
      Lacks-from a (all_leaves es) (λ m. has_lacks a set x (apart a m).0),
      Lacks-from b (all_leaves es)
          (λ m. has_lacks b set y (apart b m).0),
    ),
    λ a b c d e1 e2. (
      sides_swapped set for es es (apart_kids set for es apart)
          (apart_swaps for set (all_leaves es) (apart_back set for (all_leaves es) apart)) a b c d e1 e2,
      sides_swapped for set es es (apart_kids for set es (apart_back set for (all_leaves es) apart))
          (apart_swaps set for (all_leaves es) apart) c d a b (exchanged_back set for a c e1)
          (exchanged_back set for b d e2),
    ),
  )

  -- a P-node in a node beside the hole has leaves beside the hole alone
  in_leaves : (m n : Node) → IsIn m n → (x : ℕ) → Has x (leaves m) → Has x (leaves n)
  in_leaves m _ itself x h = h
  in_leaves m _ (under_P o ks k kid i) x h =
      subst (Has x) (sym (leaves_P o ks)) (kid_leaf x k ks kid (in_leaves m k i x h))
  in_leaves m _ (under_Q v ks k kid i) x h =
      subst (Has x) (sym (leaves_Q v ks)) (kid_leaf x k ks kid (in_leaves m k i x h))

  -- each P-node in kids of which nothing is exchanged keeps its sides
  beside_owner : (es : List Node) → IsApart set for (all_leaves es) → (owner : ℕ) (kids : List Node)
      → IsInRow (P owner kids) es → HasSides kids kids
  beside_owner es apart owner kids h =
      beside_sides kids (λ x m. apart x
      (kid_leaf x h.0 es h.1 (in_leaves (P owner kids) h.0 h.2 x (subst (Has x) (sym (leaves_P owner kids)) m))))

  module _ (a b : List Node) (ea : IsApart set for (all_leaves a)) (eb : IsApart set for (all_leaves b)) where
    -- the kids of a frame: those beside the hole and what stands in it
    round_owners : (ks js : List Node) → Swapped ks js → (owner : ℕ) (kids : List Node)
        → IsInRow (P owner kids) (a ++ (js ++ b))
        → IsIn (P owner kids) node
        ⊎ ((old_kids : List Node) × IsInRow (P owner old_kids) (a ++ (ks ++ b)) × HasSides old_kids kids)
    round_owners ks js s owner kids h = ⊎_elim
        (λ g. inr (kids, in_row_left (P owner kids) a (ks ++ b) g, beside_owner a ea owner kids g))
        (λ g. ⊎_elim
        (λ x. ⊎_elim inl (λ y. inr
        (y.0, in_row_right (P owner y.0) a (ks ++ b) (in_row_left (P owner y.0) ks b y.1), y.2))
        (s.owners owner kids x))
        (λ x. inr (
          kids,
          in_row_right (P owner kids) a (ks ++ b) (in_row_right (P owner kids) ks b x),
          beside_owner b eb
              owner kids x,
        ))
        (in_row_cases (P owner kids) js b g))
        (in_row_cases (P owner kids) a (js ++ b) h)

    -- the set stands in the row
    round_set : (ks : List Node) → ((x : ℕ) → Has x set → Has x (all_leaves ks)) → (x : ℕ) → Has x set
        → Has x (all_leaves (a ++ (ks ++ b)))
    round_set ks f x h =
        subst (Has x) (sym (round_leaves a ks b))
        (Has-append_right x (all_leaves a) (all_leaves ks ++ all_leaves b)
        (Has-append_left x (all_leaves ks) (all_leaves b) (f x h)))

    -- the leaves of a row of one P-node
    row_P : (o : ℕ) (ks : List Node) → all_leaves (P o ks ∷ []) ≡ all_leaves ks
    row_P o ks = all_leaves_one (P o ks) ∙ leaves_P o ks

    -- the leaves of a row of one Q-node
    row_Q : (v : ℕ) (ks : List Node) → all_leaves (Q v ks ∷ []) ≡ all_leaves ks
    row_Q v ks = all_leaves_one (Q v ks) ∙ leaves_Q v ks

    -- a Q-node round the row
    around_Q : (v : ℕ) (ks js : List Node) → Swapped ks js
        → Swapped (Q v (a ++ (ks ++ b)) ∷ []) (Q v (a ++ (js ++ b)) ∷ [])
    around_Q v ks js s = record {
      forth = subst₂ (Swaps set for) (sym (row_Q v (a ++ (ks ++ b)))) (sym (row_Q v (a ++ (js ++ b))))
          (round_swaps set for a ks js b ea eb s.forth);
      back = subst₂ (Swaps for set) (sym (row_Q v (a ++ (js ++ b)))) (sym (row_Q v (a ++ (ks ++ b))))
          (round_swaps for set a js ks b (apart_back set for (all_leaves a) ea) (apart_back set for (all_leaves b) eb)
          s.back);
      has_set = λ x h. subst (Has x) (sym (row_Q v (a ++ (ks ++ b)))) (round_set ks s.has_set x h);
      owners = λ owner kids h. ⊎_elim
          (λ e. absurd (P_Q owner v kids (a ++ (js ++ b)) e))
          (λ g. ⊎_elim inl (λ y. inr (y.0, in_row_Q (P owner y.0) v (a ++ (ks ++ b)) y.1, y.2))
          (round_owners ks js s owner kids g))
          (in_Q (P owner kids) v (a ++ (js ++ b)) (in_row_one (P owner kids) (Q v (a ++ (js ++ b))) h));
    }

    -- the sides of a P-node round the hole
    around_sides : (k j : Node) → Swapped (k ∷ []) (j ∷ []) → HasSides (a ++ k ∷ b) (a ++ j ∷ b)
    around_sides k j s = (
      λ x y hx hy. inl (
        k,
        (a, b, refl),
        subst (Has x) (all_leaves_one k) (s.has_set x hx),
        subst (Has y)
            (all_leaves_one k) (s.has_set y hy),
      ),
      λ x y c d e1 e2. (
        sides_swapped set for (a ++ k ∷ b) (a ++ j ∷ b) (round_kids set for a b k j ea eb forth)
            (round_swaps for set a (j ∷ []) (k ∷ []) b (apart_back set for (all_leaves a) ea)
            (apart_back set for (all_leaves b) eb) s.back) x y c d e1 e2,
        sides_swapped for set (a ++ j ∷ b) (a ++ k ∷ b)
            (round_kids for set a b j k (apart_back set for (all_leaves a) ea) (apart_back set for (all_leaves b) eb)
            back) (round_swaps set for a (k ∷ []) (j ∷ []) b ea eb s.forth) c d x y (exchanged_back set for x c e1)
            (exchanged_back set for y d e2),
      ),
    )
      where
        forth : Swaps set for (leaves k) (leaves j)
        forth = subst₂ (Swaps set for) (all_leaves_one k) (all_leaves_one j) s.forth

        back : Swaps for set (leaves j) (leaves k)
        back = subst₂ (Swaps for set) (all_leaves_one j) (all_leaves_one k) s.back

    -- a P-node round the node
    around_P : (o : ℕ) (k j : Node) → Swapped (k ∷ []) (j ∷ [])
        → Swapped (P o (a ++ k ∷ b) ∷ []) (P o (a ++ j ∷ b) ∷ [])
    around_P o k j s = record {
      forth = subst₂ (Swaps set for) (sym (row_P o (a ++ k ∷ b))) (sym (row_P o (a ++ j ∷ b)))
          (round_swaps set for a (k ∷ []) (j ∷ []) b ea eb s.forth);
      back = subst₂ (Swaps for set) (sym (row_P o (a ++ j ∷ b))) (sym (row_P o (a ++ k ∷ b)))
          (round_swaps for set a (j ∷ []) (k ∷ []) b (apart_back set for (all_leaves a) ea)
          (apart_back set for (all_leaves b) eb) s.back);
      has_set = λ x h. subst (Has x) (sym (row_P o (a ++ k ∷ b))) (round_set (k ∷ []) s.has_set x h);
      owners = λ owner kids h. ⊎_elim
          (λ e. let g = P_P owner o kids (a ++ j ∷ b) e in
          inr (
            a ++ k ∷ b,
            subst (λ z. IsInRow (P z (a ++ k ∷ b)) (P o (a ++ k ∷ b) ∷ [])) (sym g.0)
                (one_in_row (P o (a ++ k ∷ b)) (P o (a ++ k ∷ b)) itself),
            subst (HasSides (a ++ k ∷ b)) (sym g.1)
                (around_sides k j s),
          ))
          (λ g. ⊎_elim inl (λ y. inr (y.0, in_row_P (P owner y.0) o (a ++ k ∷ b) y.1, y.2))
          (round_owners (k ∷ []) (j ∷ []) s owner kids g))
          (in_P (P owner kids) o (a ++ j ∷ b) (in_row_one (P owner kids) (P o (a ++ j ∷ b)) h));
    }

    -- an inner node round the node
    around : (l : Label) (k j : Node) → Swapped (k ∷ []) (j ∷ [])
        → Swapped (node_of l (a ++ k ∷ b) ∷ []) (node_of l (a ++ j ∷ b) ∷ [])
    around (Label.P o) k j s = around_P o k j s
    around (Label.Q v) k j s = around_Q v (k ∷ []) (j ∷ []) s

  -- what is apart beside the hole is apart in each frame
  frame_apart : (f : Frame) (fs : List Frame) → IsApart set for (beside_leaves (f ∷ fs))
      → IsApart set for (all_leaves f.before) × IsApart set for (all_leaves f.after)
      × IsApart set for (beside_leaves fs)
  frame_apart f fs apart =
      let a = all_leaves f.before in let b = all_leaves f.after in (
        λ x h. apart x (Has-append_left x (a ++ b) (beside_leaves fs) (Has-append_left x a b h)),
        λ x h. apart x (Has-append_left x (a ++ b) (beside_leaves fs) (Has-append_right x a b h)),
        λ x h. apart x (Has-append_right x (a ++ b) (beside_leaves fs) h),
      )

  -- a node in frames
  swapped_one : (fs : List Frame) (k j : Node) → IsApart set for (beside_leaves fs) → Swapped (k ∷ []) (j ∷ [])
      → Swapped (fill fs (k ∷ [])) (fill fs (j ∷ []))
  swapped_one [] k j apart s = s
  swapped_one (f ∷ fs) k j apart s =
      let g = frame_apart f fs apart in
      swapped_one fs (node_of f.label (f.before ++ k ∷ f.after)) (node_of f.label (f.before ++ j ∷ f.after)) g.2
      (around f.before f.after g.0 g.1 f.label k j s)

  -- a run in frames
  swapped_run : (v : ℕ) (fs : List Frame) → IsInQ v fs → (ks : List Node) (j : Node)
      → IsApart set for (beside_leaves fs)
      → Swapped ks (j ∷ []) → Swapped (fill fs ks) (fill fs (j ∷ []))
  swapped_run v [] i ks j apart s = absurd i
  swapped_run v (f ∷ fs) i ks j apart s =
      let g = frame_apart f fs apart in
      swapped_one fs (node_of f.label (f.before ++ (ks ++ f.after))) (node_of f.label (f.before ++ j ∷ f.after)) g.2
      (subst (λ l. Swapped (node_of l (f.before ++ (ks ++ f.after)) ∷ []) (node_of l (f.before ++ j ∷ f.after) ∷ []))
      (sym i.0) (around_Q f.before f.after g.0 g.1 v ks (j ∷ []) s))

  -- the part in frames
  swapped_part : (fs : List Frame) (var : Option ℕ) (ks : List Node) → IsPartAt fs var ks
      → IsApart set for (beside_leaves fs)
      → Swapped ks (node ∷ []) → Swapped (fill fs ks) (fill fs (node ∷ []))
  swapped_part fs None ks p apart s =
      subst (λ z. Swapped (fill fs z) (fill fs (node ∷ []))) (sym p.1)
      (swapped_one fs p.0 node apart (subst (λ z. Swapped z (node ∷ [])) p.1 s))
  swapped_part fs (Some v) ks p apart s = swapped_run v fs p.1 ks node apart s

  -- the part, whose leaves are those of the set, and the node
  swapped_here : (ks : List Node) → ((x : ℕ) → Has x set → Has x (all_leaves ks))
      → ((x : ℕ) → Has x (all_leaves ks) → Has x set)
      → Swapped ks (node ∷ [])
  swapped_here ks to from = record {
    forth = λ a c e h. ⊎_elim (λ g. absurd (has_lacks a set (from a h) g.1))
        (λ g. subst (Has c) (sym (all_leaves_one node)) g.1) e;
    back = λ a c e h. ⊎_elim (λ g. absurd (has_lacks a for (subst (Has a) (all_leaves_one node) h) g.1)) (λ g. to c g.1)
        e;
    has_set = to;
    owners = λ owner kids h. inl (in_row_one (P owner kids) node h);
  }

  -- the owners of the whole
  pub owners_part : (fs : List Frame) (var : Option ℕ) (ks : List Node) (old new : Node) → IsPartAt fs var ks
      → ((x : ℕ) → Has x (beside_leaves fs) → Lacks x set × Lacks x (leaves node))
      → ((x : ℕ) → Has x set → Has x (all_leaves ks)) → ((x : ℕ) → Has x (all_leaves ks) → Has x set)
      → old ∷ [] ≡ fill fs ks → new ∷ [] ≡ fill fs (node ∷ []) → ExchangesOwners set node old new
  owners_part fs var ks old new p apart to from e1 e2 owner kids h =
      let s = swapped_part fs var ks p apart (swapped_here ks to from) in
      ⊎_elim inl
      (λ g. inr (g.0, in_row_one (P owner g.0) old (subst (IsInRow (P owner g.0)) (sym e1) g.1), g.2.0, g.2.1))
      (s.owners owner kids (subst (IsInRow (P owner kids)) e2 (one_in_row (P owner kids) new h)))
