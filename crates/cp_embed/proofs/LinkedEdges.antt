-- Walks over the vertices that are taken, when one vertex more is taken.
use Rattle.std.proofs.Common.{◌≡◌, ◌≢◌, ℕ, ◌*◌, ◌<◌, ◌⊎◌, ◌↔◌, List, ◌∷◌, map, sym, refl, ap, ◌∙◌, subst, inl, inr, ⊎_elim, arith}
use Rattle.cp_lists.specs.CyclicLists.{Has, Lacks}
use Rattle.cp_lists.proofs.DistinctLists.{has_lacks, Lacks-from}
use Rattle.cp_lists.proofs.MappedLists.{Has-map_on, map_on-Has}
use Rattle.cp_faces.specs.Twins.{twin}
use Rattle.cp_faces.proofs.Twins.{twin-twin, twin-below, half_twin, same_half}
use Rattle.cp_pq.specs.declared.node.Node.{Node}
use Rattle.cp_pq.specs.Owners.{AreOnOneSide}
use Rattle.cp_embed.specs.Directions.{edge_of}
use Rattle.cp_embed.specs.OwnedTrees.{HasOldSides, Reaches, here, over, AreLinkedBehind}
use Rattle.cp_embed.specs.Sweeps.{ins_of, outs_of, LeadsInto}
use Rattle.cp_embed.proofs.DartLists.{ins_of-Has, outs_of-Has}
use Rattle.cp_embed.proofs.Sides.{AreOnOneSide-sym}
use Rattle.cp_embed.proofs.Sweeps.{LeadsInto-before}

-- a map of darts, and a vertex v to walk round
module _ (at : ℕ → ℕ) (e v : ℕ) where
  -- the twin of a dart of an edge
  twin_lt : (d : ℕ) → d < 2 * e → twin d < 2 * e
  twin_lt d lt = twin-below (2 * e) d (omega arith) lt

  -- a walk ends at a vertex that is taken
  pub Reaches-Has : (taken : List ℕ) (p q : ℕ) → Has p taken → Reaches at e taken v p q → Has q taken
  Reaches-Has taken p _ hp here = hp
  Reaches-Has taken p _ hp (over d q w lt is has ne) = has

  -- and not at v
  pub Reaches-apart : (taken : List ℕ) (p q : ℕ) → p ≢ v → Reaches at e taken v p q → q ≢ v
  Reaches-apart taken p _ np here = np
  Reaches-apart taken p _ np (over d q w lt is has ne) = ne

  -- walks go on
  Reaches-trans : (taken : List ℕ) (p q s : ℕ) → Reaches at e taken v p q → Reaches at e taken v q s
      → Reaches at e taken v p s
  Reaches-trans taken p q _ w here = w
  Reaches-trans taken p q _ w (over d s u lt is has ne) = over d s (Reaches-trans taken p q (at d) w u) lt is has ne

  -- and back
  pub Reaches-sym : (taken : List ℕ) (p q : ℕ) → Has p taken → p ≢ v → Reaches at e taken v p q
      → Reaches at e taken v q p
  Reaches-sym taken p _ hp np here = here
  Reaches-sym taken p _ hp np (over d q w lt is has ne) =
      Reaches-trans taken q (at d) p
      (over (twin d) (at d) (subst (Reaches at e taken v q) (sym is) here) (twin_lt d lt) (ap at (twin-twin d))
      (Reaches-Has taken p (at d) hp w) (Reaches-apart taken p (at d) np w))
      (Reaches-sym taken p (at d) hp np w)

  -- a walk enters x by the edge i
  pub record Enters (taken : List ℕ) (x p : ℕ) : Type 0 where
    pub by : ℕ
    pub is_in : Has by (ins_of at e taken x)
    pub apart : at (twin by) ≢ v
    pub walk : Reaches at e taken v p (at (twin by))

  -- where x is taken too, a walk from another vertex enters x, or it does not and ends elsewhere
  pub walk_cases : (taken : List ℕ) (x p q : ℕ) → Lacks x taken → Has p taken → p ≢ v
      → Reaches at e (x ∷ taken) v p q → Enters taken x p ⊎ ((q ≢ x) × Reaches at e taken v p q)
  walk_cases taken x p _ new hp np here = inr ((λ same. has_lacks x taken (subst (λ y. Has y taken) same hp) new), here)
  walk_cases taken x p _ new hp np (over d q w lt is has ne) = ⊎_elim
      inl
      (λ before.
      let there : Has (at d) taken = Reaches-Has taken p (at d) hp before.1 in
      let back : at (twin (twin d)) ≡ at d = ap at (twin-twin d) in
      ⊎_elim
      (λ same. inl (record {
        by = twin d;
        is_in = (ins_of-Has at e taken x (twin d)).1
            (twin_lt d lt, is ∙ sym same, subst (λ y. Has y taken) (sym back) there);
        apart = λ f. Reaches-apart taken p (at d) np before.1 (sym back ∙ f);
        walk = subst (Reaches at e taken v p) (sym back) before.1;
      }))
      (λ old. inr (
        (λ same. has_lacks x taken (subst (λ y. Has y taken) same old) new),
        over d q before.1 lt is old ne,
      ))
      has)
      (walk_cases taken x p (at d) new hp np w)

-- x is taken next, in a map without loops, with the edges of ins to what is taken and its others
module _ (at : ℕ → ℕ) (e : ℕ) (no_loop : (d : ℕ) → d < 2 * e → at (twin d) ≢ at d) (taken : List ℕ) (x : ℕ)
    (new : Lacks x taken) (ins outs : List ℕ) (ins_are : (k : ℕ)
    → Has k ins ↔ Has k (map edge_of (ins_of at e taken x)))
    (outs_are : (k : ℕ) → Has k outs ↔ Has k (map edge_of (outs_of at e taken x))) where
  -- an edge with no dart at x is none of its edges
  edge-Lacks : (d : ℕ) → at d ≢ x → at (twin d) ≢ x → Lacks (edge_of d) ins × Lacks (edge_of d) outs
  edge-Lacks d here_not there_not = (
    Lacks-from (edge_of d) ins (λ h.
        let c : (i : ℕ) × Has i (ins_of at e taken x) × (edge_of i ≡ edge_of d) =
        map_on-Has edge_of (edge_of d) (ins_of at e taken x) ((ins_are (edge_of d)).0 h)
        in
        no_dart c.0 c.2 ((ins_of-Has at e taken x c.0).0 c.1).1),
    Lacks-from (edge_of d) outs (λ h.
        let c : (i : ℕ) × Has i (outs_of at e taken x) × (edge_of i ≡ edge_of d) =
        map_on-Has edge_of (edge_of d) (outs_of at e taken x) ((outs_are (edge_of d)).0 h)
        in
        no_dart c.0 c.2 ((outs_of-Has at e taken x c.0).0 c.1).1),
  )
    where
      no_dart : (c : ℕ) → edge_of c ≡ edge_of d → at c ≡ x → ⊥
      no_dart c same is = ⊎_elim
          (λ f. here_not (ap at (sym f) ∙ is))
          (λ f. there_not (ap at (ap twin f ∙ twin-twin c) ∙ is))
          (same_half c d same)

  -- a dart that then leads into what is taken is of one of the edges of outs and leads to x, or it did so before, and
  -- is
  -- of none of the edges of x
  pub after_cases : (d : ℕ) → LeadsInto at e (x ∷ taken) d
      → (Has (edge_of d) outs × (at (twin d) ≡ x))
      ⊎ (LeadsInto at e taken d × (at (twin d) ≢ x) × Lacks (edge_of d) ins × Lacks (edge_of d) outs)
  after_cases d q = ⊎_elim
      (λ h. inl (
        (outs_are (edge_of d)).1 (subst (λ k. Has k (map edge_of (outs_of at e taken x))) (half_twin d)
            (Has-map_on edge_of (twin d) (outs_of at e taken x) h)),
        ((outs_of-Has at e taken x (twin d)).0 h).1,
      ))
      (λ before.
      let apart : at (twin d) ≢ x = λ same. has_lacks x taken (subst (λ y. Has y taken) same before.into) new in
      let none = edge-Lacks d (λ same. q.outside.0 (sym same)) apart in
      inr (before, apart, none.0, none.1))
      (LeadsInto-before at e 0 no_loop taken x new d q)

  -- a P-node with a side for each two edges that are linked behind its owner, and what it becomes
  module _ (v : ℕ) (v_in : Has v taken) (old : Node) (kids : List Node) (h : HasOldSides ins outs old v kids)
      (some_out : (k : ℕ) × Has k outs)
      (trans : (a b c : ℕ) → AreOnOneSide kids a b → AreOnOneSide kids b c → AreOnOneSide kids a c)
      (linked : (a b : ℕ) → AreLinkedBehind at e taken v a b → AreOnOneSide h.old_kids a b) where
    -- an edge that does not end at x from which a walk enters x is on the side of the edges of outs
    entered : (d : ℕ) → LeadsInto at e taken d → at (twin d) ≢ v → Lacks (edge_of d) ins → Lacks (edge_of d) outs
        → Enters at e v taken x (at (twin d)) → (k : ℕ) → Has k outs → AreOnOneSide kids (edge_of d) k
    entered d leads apart not_in not_out w k k_out =
        let i = (ins_of-Has at e taken x w.by).0 w.is_in in
        let i_in : Has (edge_of w.by) ins =
        (ins_are (edge_of w.by)).1 (Has-map_on edge_of w.by (ins_of at e taken x) w.is_in)
        in
        h.sides (edge_of d) (edge_of w.by) (edge_of d) k (inl (refl, not_in, not_out)) (inr (i_in, k_out))
        (linked (edge_of d) (edge_of w.by) (record {
          from = d;
          to = w.by;
          from_is = refl;
          to_is = refl;
          from_leads = leads;
          to_leads = record {
            within = i.0;
            outside = subst (λ y. Lacks y taken) (sym i.1) new;
            into = i.2;
          };
          from_apart = apart;
          to_apart = w.apart;
          walk = w.walk;
        }))

    -- two edges with ends before x: the walk between them enters x, or not
    both_before : (c d : ℕ) → LeadsInto at e taken c → LeadsInto at e taken d → at (twin c) ≢ v → at (twin d) ≢ v
        → Lacks (edge_of c) ins → Lacks (edge_of c) outs → Lacks (edge_of d) ins → Lacks (edge_of d) outs
        → Reaches at e (x ∷ taken) v (at (twin c)) (at (twin d)) → AreOnOneSide kids (edge_of c) (edge_of d)
    both_before c d lc ld ac ad nc oc nd od walk = ⊎_elim
        (λ w.
        ⊎_elim
        (λ z. trans (edge_of c) some_out.0 (edge_of d)
        (entered c lc ac nc oc w some_out.0 some_out.1) (AreOnOneSide-sym kids (edge_of d) some_out.0
        (entered d ld ad nd od z some_out.0 some_out.1)))
        (λ direct. by_walk (Reaches-sym at e v taken (at (twin d)) (at (twin c)) ld.into ad direct.1))
        (walk_cases at e v taken x (at (twin d)) (at (twin c)) new ld.into ad
        (Reaches-sym at e v (x ∷ taken) (at (twin c)) (at (twin d)) (inr lc.into) ac walk)))
        (λ direct. by_walk direct.1)
        (walk_cases at e v taken x (at (twin c)) (at (twin d)) new lc.into ac walk)
      where
        by_walk : Reaches at e taken v (at (twin c)) (at (twin d)) → AreOnOneSide kids (edge_of c) (edge_of d)
        by_walk w = h.sides (edge_of c) (edge_of d) (edge_of c) (edge_of d) (inl (refl, nc, oc)) (inl (refl, nd, od))
            (linked (edge_of c) (edge_of d) (record {
              from = c;
              to = d;
              from_is = refl;
              to_is = refl;
              from_leads = lc;
              to_leads = ld;
              from_apart = ac;
              to_apart = ad;
              walk = w;
            }))

    -- an edge of outs, and one with its end before x
    one_before : (c d : ℕ) → Has (edge_of c) outs → at (twin c) ≡ x → LeadsInto at e taken d → at (twin d) ≢ v
        → Lacks (edge_of d) ins → Lacks (edge_of d) outs → Reaches at e (x ∷ taken) v (at (twin d)) (at (twin c))
        → AreOnOneSide kids (edge_of d) (edge_of c)
    one_before c d c_out c_at ld ad nd od walk = ⊎_elim
        (λ w. entered d ld ad nd od w (edge_of c) c_out)
        (λ direct. absurd (direct.0 c_at))
        (walk_cases at e v taken x (at (twin d)) (at (twin c)) new ld.into ad walk)

    -- edges that are then linked behind v are on one side of what it becomes
    pub linked_after : (a b : ℕ) → AreLinkedBehind at e (x ∷ taken) v a b → AreOnOneSide kids a b
    linked_after a b l =
        subst (λ z. AreOnOneSide kids z b) l.from_is (subst (AreOnOneSide kids (edge_of l.from)) l.to_is
        (⊎_elim
        (λ c. ⊎_elim
        (λ d. h.together (edge_of l.from) (edge_of l.to) c.0 d.0)
        (λ d. AreOnOneSide-sym kids (edge_of l.to) (edge_of l.from) (one_before l.from l.to c.0 c.1 d.0 l.to_apart d.2
        d.3
        (Reaches-sym at e v (x ∷ taken) (at (twin l.from)) (at (twin l.to)) l.from_leads.into l.from_apart l.walk)))
        (after_cases l.to l.to_leads))
        (λ c. ⊎_elim
        (λ d. one_before l.to l.from d.0 d.1 c.0 l.from_apart c.2 c.3 l.walk)
        (λ d. both_before l.from l.to c.0 d.0 l.from_apart l.to_apart c.2 c.3 d.2 d.3 l.walk)
        (after_cases l.to l.to_leads))
        (after_cases l.from l.from_leads)))
