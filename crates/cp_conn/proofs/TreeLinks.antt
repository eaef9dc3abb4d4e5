-- Links along a search forest: they stay within blocks, and they connect each block.
use Rattle.std.proofs.Common.{◌≡◌, ℕ, true, ◌+◌, ◌*◌, ◌/◌, ◌<◌, ◌≤◌, ◌⊎◌, List, [], ◌∷◌, ◌++◌, cond, length, get_or, ltb, sym, refl, ap, ◌∙◌, subst, inl, inr, ⊎_elim, arith}
use Rattle.std.specs.List.{Contains}
use Rattle.std.proofs.lemmas.Bool.{cases_eq, cases_lt, lt-ltb, le-ltb}
use Rattle.std.proofs.lemmas.List.{get_or_read}
use Rattle.std.proofs.lemmas.List.Elements.{Contains-append_cases, Contains-append_left, Contains-append_right}
use Rattle.cp_base.specs.Graphs.{AreWithin}
use Rattle.cp_orbits.specs.Connected.{Joins, Connected, here, step}
use Rattle.cp_orbits.specs.Classes.{labels}
use Rattle.cp_orbits.proofs.ClassLabels.{Contains-head, connected_labels, Connected-trans, Connected-sym, Connected-pair}
use Rattle.cp_conn.specs.Darts.{start, finish}
use Rattle.cp_conn.specs.CutVertex.{avoids, without_vertex}
use Rattle.cp_conn.specs.Blocks.{HaveNoLoop, AreInOneBlock, Touches}
use Rattle.cp_conn.specs.Links.{AreBlockLinks}
use Rattle.cp_conn.specs.SearchForest.{Forest, Above, itself, child, Hangs, IsSearchForest}
use Rattle.cp_conn.specs.LowPoints.{AreLowPoints}
use Rattle.cp_conn.specs.TreeLinks.{AreEdgeLinks, AddsTreeLinks, LinksUp, deeper, edge_link, tree_link, LeadsPast}
use Rattle.cp_conn.proofs.DartChains.{Contains-at, dart_joins, dart_of, Joins-sym, labels_joined, within_joined, start_within, finish_within}
use Rattle.cp_conn.proofs.CutVertices.{Contains-split, kept_pair, kept_of, avoided, avoids_of}
use Rattle.cp_conn.proofs.OneBlock.{one_block_at}
use Rattle.cp_conn.proofs.EdgeEnds.{ends_differ}
use Rattle.cp_conn.proofs.Forests.{ArePlaced, above_up, Above-trans, above_both, above_root, above_number, above-le, above_cases, Branch, branch, low_above}

-- the links of the first edges and vertices: each edge with the tree edge of its deeper end, and the tree edges of
-- each vertex that leads past the one above it
pub record AreTreeLinks (es : List (ℕ × ℕ)) (forest : Forest) (low : List ℕ) (edges vertices : ℕ)
    (links : List (ℕ × ℕ)) : Type 0 where
  pub each_edge : (e : ℕ) → e < edges → Contains links (edge_link es forest e)
  pub each_vertex : (v : ℕ) → v < vertices → LeadsPast forest low v → Contains links (tree_link forest v)
  pub only : (p : ℕ × ℕ) → Contains links p → ((e : ℕ) × (e < edges) × (edge_link es forest e ≡ p))
      ⊎ ((v : ℕ) × (v < vertices) × LeadsPast forest low v × (tree_link forest v ≡ p))

-- the ends of an edge that v does not touch are connected without v
clear_edge : (es : List (ℕ × ℕ)) (v e x y : ℕ) → e < length es → Joins (get_or es e (0, 0)) x y → (x ≡ v → ⊥)
    → (y ≡ v → ⊥) → labels (without_vertex v es) x ≡ labels (without_vertex v es) y
clear_edge es v e x y lt j nx ny =
    labels_joined (without_vertex v es) (get_or es e (0, 0)) x y
    (kept_of (avoids v) es (get_or es e (0, 0)) (Contains-at es e lt) passes) j
  where
    -- the edge does not touch v
    passes : avoids v (get_or es e (0, 0)) ≡ true
    passes =
        ⊎_elim
        (λ h. avoids_of v (get_or es e (0, 0)) (λ g. nx (sym h.0 ∙ g)) (λ g. ny (sym h.1 ∙ g)))
        (λ h. avoids_of v (get_or es e (0, 0)) (λ g. ny (sym h.0 ∙ g)) (λ g. nx (sym h.1 ∙ g)))
        j

-- the way up from b to a, where it does not pass p, connects them without p
climb_clear : (es : List (ℕ × ℕ)) (n : ℕ) (forest : Forest) (p a b : ℕ) → ArePlaced es n forest → b < n
    → Above forest a b → ((u : ℕ) → Above forest a u → Above forest u b → u ≡ p → ⊥)
    → labels (without_vertex p es) a ≡ labels (without_vertex p es) b
climb_clear es n forest p a b pl lt itself clear = refl
climb_clear es n forest p a b pl lt (child w) clear =
    ⊎_elim
    (λ root. ap (labels (without_vertex p es)) (above_root forest a b (child w) root))
    (λ h. climb_clear es n forest p a (get_or forest.parent b 0) pl h.within w (λ u k l. clear u k (child l))
    ∙ clear_edge es p (get_or forest.edge b 0) (get_or forest.parent b 0) b h.edge_within
    (Joins-sym (get_or es (get_or forest.edge b 0) (0, 0)) b (get_or forest.parent b 0) h.joined)
    (clear (get_or forest.parent b 0) w (child itself)) (clear b (child w) itself))
    (pl b lt)

-- the deeper end of an edge from x down to y is y
deeper_end : (es : List (ℕ × ℕ)) (n : ℕ) (forest : Forest) (p : ℕ × ℕ) (x y : ℕ) → ArePlaced es n forest
    → y < n → Joins p x y → Above forest x y → (x ≡ y → ⊥) → deeper forest.number p ≡ y
deeper_end es n forest p x y pl lt j w ne =
    ⊎_elim
    (λ e. absurd (ne e))
    (λ k. ⊎_elim
    (λ h. ap (λ t. cond t p.1 p.0)
    (lt-ltb (get_or forest.number p.0 0) (get_or forest.number p.1 0)
    (omega (arith, k.1, ap (λ (z : ℕ). get_or forest.number z 0) h.0, ap (λ (z : ℕ). get_or forest.number z 0) h.1)))
    ∙ h.1)
    (λ h. ap (λ t. cond t p.1 p.0)
    (le-ltb (get_or forest.number p.0 0) (get_or forest.number p.1 0)
    (omega (arith, k.1, ap (λ (z : ℕ). get_or forest.number z 0) h.0, ap (λ (z : ℕ). get_or forest.number z 0) h.1)))
    ∙ h.0)
    j)
    (above_number es n forest x y pl lt w)

-- the ends of an edge, the upper first
pub record Upright (es : List (ℕ × ℕ)) (n : ℕ) (forest : Forest) (e : ℕ) : Type 0 where
  pub upper : ℕ
  pub lower : ℕ
  pub joined : Joins (get_or es e (0, 0)) upper lower
  pub over : Above forest upper lower
  pub differ : upper ≡ lower → ⊥
  pub within : lower < n

-- each edge goes down from one end to the other
upright : (es : List (ℕ × ℕ)) (n : ℕ) (forest : Forest) (e : ℕ) → AreWithin n es → HaveNoLoop es
    → IsSearchForest es n forest → e < length es → Upright es n forest e
upright es n forest e w none searched lt =
    ⊎_elim
    (λ a. record {
      upper = start es (2 * e);
      lower = finish es (2 * e);
      joined = joins;
      over = a;
      differ = λ same. ends_differ es e (start es (2 * e)) (finish es (2 * e)) none lt joins (sym same);
      within = finish_within n es (2 * e) w (omega arith);
    })
    (λ a. record {
      upper = finish es (2 * e);
      lower = start es (2 * e);
      joined = Joins-sym (get_or es e (0, 0)) (start es (2 * e)) (finish es (2 * e)) joins;
      over = a;
      differ = λ same. ends_differ es e (start es (2 * e)) (finish es (2 * e)) none lt joins same;
      within = start_within n es (2 * e) w (omega arith);
    })
    (searched.upright (2 * e) (omega arith))
  where
    -- edge e joins the ends of its even dart
    joins : Joins (get_or es e (0, 0)) (start es (2 * e)) (finish es (2 * e))
    joins = let half : 2 * e / 2 ≡ e = omega arith in
        subst (λ (k : ℕ). Joins (get_or es k (0, 0)) (start es (2 * e)) (finish es (2 * e))) half
        (dart_joins es (2 * e) (omega arith))

-- the links are within blocks
links_in_blocks : (es : List (ℕ × ℕ)) (n : ℕ) (forest : Forest) (low : List ℕ) (links : List (ℕ × ℕ)) → AreWithin n es
    → HaveNoLoop es → IsSearchForest es n forest → AreLowPoints es n forest low
    → AreTreeLinks es forest low (length es) n links
    → (p : ℕ × ℕ) → Contains links p → (p.0 < length es) × (p.1 < length es) × AreInOneBlock es p.0 p.1
links_in_blocks es n forest low links w none searched lows l p c =
    ⊎_elim
    (λ h. subst Good h.2 (of_edge h.0 h.1))
    (λ h. subst Good h.3 (of_vertex h.0 h.1 h.2))
    (l.only p c)
  where
    -- the two are edges of one block
    Good : ℕ × ℕ → Type 0
    Good q = (q.0 < length es) × (q.1 < length es) × AreInOneBlock es q.0 q.1

    -- the number of a vertex
    num : ℕ → ℕ
    num v = get_or forest.number v 0

    -- equal vertices have equal numbers
    at : (a b : ℕ) → a ≡ b → num a ≡ num b
    at a b e = ap num e

    -- what is above a vertex is a vertex and has no higher number
    le : (a b : ℕ) → b < n → Above forest a b → (a < n) × (num a ≤ num b)
    le a b lt k = above-le es n forest a b searched.placed lt k

    -- an edge from x down to y is in one block with the tree edge of y
    below_edge : (e x y : ℕ) → e < length es → Joins (get_or es e (0, 0)) x y → Above forest x y → (x ≡ y → ⊥) → y < n
        → Good (e, get_or forest.edge y 0)
    below_edge e x y lt j a ne lty =
        ⊎_elim
        (λ root. absurd (ne (above_root forest x y a root)))
        (λ h. (
          lt,
          h.edge_within,
          (one_block_at es y e (get_or forest.edge y 0) x (get_or forest.parent y 0) lt h.edge_within
              (Joins-sym (get_or es e (0, 0)) x y j) h.joined ne
              (λ same. omega (arith, h.lower, at (get_or forest.parent y 0) y same))).1
              (climb_clear es n forest y x (get_or forest.parent y 0) searched.placed h.within
              (⊎_elim (λ e. absurd (ne e)) (λ k. k) (above_up forest x y a))
              (λ u k m same. omega (arith, h.lower, (le u (get_or forest.parent y 0) h.within m).1, at u y same))),
        ))
        (searched.placed y lty)

    -- an edge is in one block with the tree edge of its deeper end
    of_edge : (e : ℕ) → e < length es → Good (edge_link es forest e)
    of_edge e lt =
        let r : Upright es n forest e = upright es n forest e w none searched lt in
        subst (λ (y : ℕ). Good (e, get_or forest.edge y 0))
        (sym (deeper_end es n forest
        (get_or es e (0, 0)) r.upper r.lower searched.placed r.within r.joined r.over r.differ))
        (below_edge e r.upper r.lower lt r.joined r.over r.differ r.within)

    -- v hangs below u, and dart d leads from below v past u
    past : (v d : ℕ) → v < n → Hangs es n forest v → d < 2 * length es → Above forest v (start es d)
        → num (finish es d) < num (get_or forest.parent v 0) → Good (tree_link forest v)
    past v d lt h ltd below less =
        ⊎_elim
        (λ root. absurd (differ (above_root forest (finish es d) u b_u root)))
        (λ k. (
          h.edge_within,
          k.edge_within,
          (one_block_at es u (get_or forest.edge v 0) (get_or forest.edge u 0) v
              (get_or forest.parent u 0) h.edge_within k.edge_within
              (Joins-sym (get_or es (get_or forest.edge v 0) (0, 0)) v u h.joined) k.joined
              (λ same. omega (arith, h.lower, at v u same))
              (λ same. omega (arith, k.lower, at (get_or forest.parent u 0) u same))).1
              (climb_clear es n forest u v (start es d) searched.placed lta below
              (λ x i j same. omega (arith, h.lower, (le v x (le x (start es d) lta j).0 i).1, at x u same))
              ∙ clear_edge es u (d / 2) (start es d) (finish es d) (omega arith) (dart_joins es d ltd)
              (λ same. omega (arith, h.lower, (le v (start es d) lta below).1, at (start es d) u same)) differ
              ∙ climb_clear es n forest u (finish es d) (get_or forest.parent u 0) searched.placed k.within
              (⊎_elim (λ e. absurd (differ e)) (λ i. i) (above_up forest (finish es d) u b_u))
              (λ x i j same. omega (arith, k.lower, (le x (get_or forest.parent u 0) k.within j).1, at x u same))),
        ))
        (searched.placed u h.within)
      where
        -- the parent of v
        u : ℕ
        u = get_or forest.parent v 0

        -- d starts at a vertex
        lta : start es d < n
        lta = start_within n es d w ltd

        -- d ends at a vertex
        ltb' : finish es d < n
        ltb' = finish_within n es d w ltd

        -- d does not end at u
        differ : finish es d ≡ u → ⊥
        differ same = omega (arith, less, at (finish es d) u same)

        -- v is not above the end of d, which has a lower number
        not_above : Above forest v (finish es d) → ⊥
        not_above i = omega (arith, less, h.lower, (le v (finish es d) ltb' i).1)

        -- the end of d is above its start
        b_a : Above forest (finish es d) (start es d)
        b_a = ⊎_elim (λ i. absurd (not_above (Above-trans forest v (start es d) (finish es d) below i))) (λ i. i)
            (searched.upright d ltd)

        -- the end of d is above v
        b_v : Above forest (finish es d) v
        b_v = ⊎_elim (λ i. i) (λ i. absurd (not_above i)) (above_both forest (finish es d) v (start es d) b_a below)

        -- the end of d is above u
        b_u : Above forest (finish es d) u
        b_u = ⊎_elim (λ e. absurd (not_above (subst (λ (z : ℕ). Above forest z (finish es d)) e itself))) (λ i. i)
            (above_up forest (finish es d) v b_v)

    -- where v leads past its parent, the tree edges of the two are in one block
    of_vertex : (v : ℕ) → v < n → LeadsPast forest low v → Good (tree_link forest v)
    of_vertex v lt leads =
        ⊎_elim
        (λ root. let less : get_or low v 0 < num v = omega (arith, leads, at (get_or forest.parent v 0) v root) in
        absurd (root_bounds v lt root (lows.reached v lt less) less))
        (λ h. let less : get_or low v 0 < num v = omega (arith, leads, h.lower) in let d = lows.reached v lt less in
        past v d.0 lt h d.1 d.2 (omega (arith, d.3, leads)))
        (searched.placed v lt)
      where
        -- no edge leads from below a root to a lower number than its own
        root_bounds : (v : ℕ) → v < n → get_or forest.parent v 0 ≡ v
            → (d : ℕ) × (d < 2 * length es) × Above forest v (start es d)
            × (get_or forest.number (finish es d) 0 ≡ get_or low v 0)
            → get_or low v 0 < num v → ⊥
        root_bounds v lt root d less =
            let within : finish es d.0 < n = finish_within n es d.0 w d.1 in
            let low_end : num (finish es d.0) < num v = omega (arith, d.3, less) in
            ⊎_elim
            (λ i. omega (
              arith,
              low_end,
              (le v (finish es d.0) within
                  (Above-trans forest v (start es d.0) (finish es d.0) d.2 i)).1,
            ))
            (λ i. ⊎_elim
            (λ j. omega (arith, low_end, at (finish es d.0) v (above_root forest (finish es d.0) v j root)))
            (λ j. omega (arith, low_end, (le v (finish es d.0) within j).1))
            (above_both forest (finish es d.0) v (start es d.0) i d.2))
            (searched.upright d.0 d.1)

-- the tree edges from x up to r are linked where an edge leads from x past r
climb_links : (es : List (ℕ × ℕ)) (n : ℕ) (forest : Forest) (low : List ℕ) (links : List (ℕ × ℕ)) (bound r x : ℕ)
    → IsSearchForest es n forest → AreLowPoints es n forest low
    → AreTreeLinks es forest low (length es) n links
    → x < n → Above forest r x → get_or low x 0 ≤ bound → bound < get_or forest.number r 0
    → Connected links (get_or forest.edge x 0) (get_or forest.edge r 0)
climb_links es n forest low links bound r x searched lows l lt itself le less = here
climb_links es n forest low links bound r x searched lows l lt (child w) le less =
    ⊎_elim
    (λ root. subst (λ (z : ℕ). Connected links (get_or forest.edge x 0) (get_or forest.edge z 0))
    (sym (above_root forest r x (child w) root)) here)
    (λ h. Connected-trans links (get_or forest.edge x 0) (get_or forest.edge (get_or forest.parent x 0) 0)
    (get_or forest.edge r 0)
    (Connected-pair links (tree_link forest x)
    (l.each_vertex x lt (omega (
      arith,
      le,
      less,
      (above-le es n forest r (get_or forest.parent x 0) searched.placed h.within w).1,
    ))))
    (climb_links es n forest low links bound r (get_or forest.parent x 0) searched lows l h.within w
    (omega (arith, le, lows.rises x lt)) less))
    (searched.placed x lt)

-- h is the tree edge at v on the way to u: of the branch of v that u is in, or else of v itself
abbrev pub Heads : List (ℕ × ℕ) → ℕ → Forest → ℕ → ℕ → ℕ → Type 0
Heads es n forest v u h =
    ((b : Branch es n forest v u) × (get_or forest.edge b.root 0 ≡ h))
    ⊎ ((Above forest v u → ⊥) × (get_or forest.edge v 0 ≡ h))

-- edges of one block at v are connected by the links
links_connect : (es : List (ℕ × ℕ)) (n : ℕ) (forest : Forest) (low : List ℕ) (links : List (ℕ × ℕ)) → AreWithin n es
    → HaveNoLoop es → IsSearchForest es n forest → AreLowPoints es n forest low
    → AreTreeLinks es forest low (length es) n links
    → (v e f : ℕ) → v < n → e < length es → f < length es → Touches es v e → Touches es v f → AreInOneBlock es e f
    → Connected links e f
links_connect es n forest low links w none searched lows l v e f ltv lte ltf te tf block =
    let x = far e te in
    let y = far f tf in
    let a = first e x.0 lte x.1 in
    let b = first f y.0 ltf y.1 in
    let c = walk x.0 y.0 e a (connected_labels (without_vertex v es) x.0 y.0
    ((one_block_at es v e f x.0 y.0 lte ltf x.1 y.1 (ends_differ es e v x.0 none lte x.1)
    (ends_differ es f v y.0 none ltf y.1)).0 block)) in
    Connected-trans links e c.0 f c.2
    (subst (λ (h : ℕ). Connected links h f) (one_head y.0 b.0 c.0 (other_within f y.0 ltf y.1) b.1 c.1)
    (Connected-sym links f b.0 b.2))
  where
    -- the number of a vertex
    num : ℕ → ℕ
    num u = get_or forest.number u 0

    -- equal vertices have equal numbers
    at : (a b : ℕ) → a ≡ b → num a ≡ num b
    at a b e = ap num e

    -- what is above a vertex has no higher number
    le : (a b : ℕ) → b < n → Above forest a b → num a ≤ num b
    le a b lt k = (above-le es n forest a b searched.placed lt k).1

    -- another vertex that is above has a lower number
    lower : (a b : ℕ) → b < n → Above forest a b → (a ≡ b → ⊥) → num a < num b
    lower a b lt k ne = ⊎_elim (λ e. absurd (ne e)) (λ h. h.1) (above_number es n forest a b searched.placed lt k)

    -- h is the tree edge at v on the way to u
    Head : ℕ → ℕ → Type 0
    Head u h = Heads es n forest v u h

    -- the root of a branch of v has a higher number than v
    over_v : (u : ℕ) (b : Branch es n forest v u) → num v < num b.root
    over_v u b = omega (arith, b.hangs.lower, at (get_or forest.parent b.root 0) v b.parent)

    -- v is above each vertex of its branches
    above_v : (u : ℕ) (b : Branch es n forest v u) → Above forest v u
    above_v u b = Above-trans forest v b.root u (child (subst (Above forest v) (sym b.parent) itself)) b.over

    -- two branches of v are one, where the root of the one is above that of the other
    same_root : (u : ℕ) (b c : Branch es n forest v u) → Above forest b.root c.root → b.root ≡ c.root
    same_root u b c k =
        ⊎_elim
        (λ e. e)
        (λ i. absurd (omega (arith, over_v u b, le b.root v ltv (subst (Above forest b.root) c.parent i))))
        (above_up forest b.root c.root k)

    -- there is one such edge
    one_head : (u h k : ℕ) → u < n → Head u h → Head u k → h ≡ k
    one_head u h k lt p q =
        ⊎_elim
        (λ b. ⊎_elim
        (λ c. sym b.1 ∙ ap (λ (z : ℕ). get_or forest.edge z 0)
        (⊎_elim (λ i. same_root u b.0 c.0 i) (λ i. sym (same_root u c.0 b.0 i))
        (above_both forest b.0.root c.0.root u b.0.over c.0.over)) ∙ c.1)
        (λ c. absurd (c.0 (above_v u b.0)))
        q)
        (λ b. ⊎_elim
        (λ c. absurd (b.0 (above_v u c.0)))
        (λ c. sym b.1 ∙ c.1)
        q)
        p

    -- the tree edges of v and of a branch of v are linked where an edge leads from the branch past v
    past : (b a : ℕ) (p : ℕ × ℕ) (r : Branch es n forest v b) → b < n → Contains es p → Joins p b a
        → num a < num v → Connected links (get_or forest.edge r.root 0) (get_or forest.edge v 0)
    past b a p r ltb c j less =
        let d = dart_of es p b a c j in
        let low_b : get_or low b 0 ≤ num a =
        omega (arith, lows.darts d.0 d.1, ap (λ (z : ℕ). get_or low z 0) d.2, at (finish es d.0) a d.3) in
        let leads : LeadsPast forest low r.root =
        omega (
          arith,
          low_b,
          less,
          low_above es n forest low r.root b searched.placed lows ltb r.over,
          at
              (get_or forest.parent r.root 0) v r.parent,
        ) in
        subst (λ (z : ℕ). Connected links (get_or forest.edge r.root 0) (get_or forest.edge z 0)) r.parent
        (Connected-pair links (tree_link forest r.root) (l.each_vertex r.root r.within leads))

    -- the tree edges at v on the way to the ends of an edge that v does not touch are linked
    pairs : (a b : ℕ) (p : ℕ × ℕ) → a < n → b < n → (a ≡ v → ⊥) → (b ≡ v → ⊥) → Contains es p → Joins p b a
        → Above forest a b → (h : ℕ) × (k : ℕ) × Head a h × Head b k × Connected links h k
    pairs a b p lta ltb na nb c j ab =
        ⊎_elim
        (λ va. let r : Branch es n forest v a = branch es n forest v a searched.placed lta va na in (
          get_or forest.edge r.root 0,
          get_or forest.edge r.root 0,
          inl (r, refl),
          inl (
            record {
              root = r.root;
              within = r.within;
              parent = r.parent;
              hangs = r.hangs;
              over =
                  Above-trans forest r.root a b r.over ab;
            },
            refl,
          ),
          here,
        ))
        (λ va. ⊎_elim
        (λ vb. let r : Branch es n forest v b = branch es n forest v b searched.placed ltb vb nb in (
          get_or forest.edge v 0,
          get_or forest.edge r.root 0,
          inr (va, refl),
          inl (r, refl),
          Connected-sym links
              (get_or forest.edge r.root 0) (get_or forest.edge v 0)
              (past b a p r ltb c j
              (⊎_elim (λ i. lower a v ltv i na) (λ i. absurd (va i)) (above_both forest a v b ab vb))),
        ))
        (λ vb. (get_or forest.edge v 0, get_or forest.edge v 0, inr (va, refl), inr (vb, refl), here))
        (above_cases es n forest v b searched.placed ltb))
        (above_cases es n forest v a searched.placed lta)

    -- a step from u to z that v does not touch
    go : (u z h : ℕ) (p : ℕ × ℕ) → (u ≡ v → ⊥) → (z ≡ v → ⊥) → Contains es p → Joins p u z → Head u h
        → (k : ℕ) × Head z k × Connected links h k
    go u z h p nu nz c j head =
        let d = dart_of es p u z c j in
        ⊎_elim
        (λ i. let q = pairs u z p ltu ltz nu nz c (Joins-sym p u z j)
        (subst (λ (t : ℕ). Above forest t z) d.2 (subst (Above forest (start es d.0)) d.3 i)) in
        (q.1, q.3, subst (λ (t : ℕ). Connected links t q.1) (one_head u q.0 h ltu q.2 head) q.4))
        (λ i. let q = pairs z u p ltz ltu nz nu c j
        (subst (λ (t : ℕ). Above forest t u) d.3 (subst (Above forest (finish es d.0)) d.2 i)) in (
          q.0,
          q.2,
          subst (λ (t : ℕ). Connected links t q.0) (one_head u q.1 h ltu q.3 head)
              (Connected-sym links q.0 q.1 q.4),
        ))
        (searched.upright d.0 d.1)
      where
        -- u is a vertex
        ltu : u < n
        ltu = within_joined n es p z u w c (Joins-sym p u z j)

        -- z is a vertex
        ltz : z < n
        ltz = within_joined n es p u z w c j

    -- along a way without v the tree edge at v stays connected to edge g
    walk : (x y g : ℕ) → (h : ℕ) × Head x h × Connected links g h → Connected (without_vertex v es) x y
        → (h : ℕ) × Head y h × Connected links g h
    walk x y g s here = s
    walk x y g s (step {y = u} k p c j) =
        let t = walk x u g s k in
        let kept = kept_pair (avoids v) es p c in
        let q = go u y t.0 p (avoided v p y u kept.1 (Joins-sym p u y j)) (avoided v p u y kept.1 j) kept.0 j t.1 in
        (q.0, q.1, Connected-trans links g t.0 q.0 t.2 q.2)

    -- an edge that touches v joins it to some vertex
    far : (g : ℕ) → Touches es v g → (x : ℕ) × Joins (get_or es g (0, 0)) v x
    far g t = ⊎_elim (λ h. ((get_or es g (0, 0)).1, inl (h, refl))) (λ h. ((get_or es g (0, 0)).0, inr (refl, h))) t

    -- the other end of an edge at v is a vertex
    other_within : (g x : ℕ) → g < length es → Joins (get_or es g (0, 0)) v x → x < n
    other_within g x lt j = within_joined n es (get_or es g (0, 0)) v x w (Contains-at es g lt) j

    -- an edge is linked to the tree edge of its deeper end
    linked_to : (g y : ℕ) → g < length es → deeper forest.number (get_or es g (0, 0)) ≡ y
        → Connected links g (get_or forest.edge y 0)
    linked_to g y lt e = subst (λ (z : ℕ). Connected links g (get_or forest.edge z 0)) e
        (Connected-pair links (edge_link es forest g) (l.each_edge g lt))

    -- an edge at v is linked to the tree edge at v on the way to its other end
    first : (g x : ℕ) → g < length es → Joins (get_or es g (0, 0)) v x → (h : ℕ) × Head x h × Connected links g h
    first g x lt j =
        let d = dart_of es (get_or es g (0, 0)) v x (Contains-at es g lt) j in
        ⊎_elim
        (λ i. down (subst (λ (t : ℕ). Above forest t x) d.2 (subst (Above forest (start es d.0)) d.3 i)))
        (λ i. rise (subst (λ (t : ℕ). Above forest t v) d.3 (subst (Above forest (finish es d.0)) d.2 i)))
        (searched.upright d.0 d.1)
      where
        -- the other end is not v, since there are no loops
        differ : x ≡ v → ⊥
        differ = ends_differ es g v x none lt j

        -- the other end is a vertex
        ltx : x < n
        ltx = other_within g x lt j

        -- where the other end is above v, the edge is linked to the tree edge of v
        rise : Above forest x v → (h : ℕ) × Head x h × Connected links g h
        rise a = (
          get_or forest.edge v 0,
          inr
              (λ b. omega (arith, lower x v ltv a differ, le v x ltx b), refl),
          linked_to g v lt
              (deeper_end es n forest (get_or es g (0, 0)) x v searched.placed ltv
              (Joins-sym (get_or es g (0, 0)) v x j) a differ),
        )

        -- where the other end is below v, the edge is linked to the tree edge of the branch that the end is in
        down : Above forest v x → (h : ℕ) × Head x h × Connected links g h
        down a =
            let r : Branch es n forest v x = branch es n forest v x searched.placed ltx a differ in
            let d = dart_of es (get_or es g (0, 0)) x v (Contains-at es g lt) (Joins-sym (get_or es g (0, 0)) v x j) in
            let low_x : get_or low x 0 ≤ num v =
            omega (arith, lows.darts d.0 d.1, ap (λ (z : ℕ). get_or low z 0) d.2, at (finish es d.0) v d.3) in (
              get_or forest.edge r.root 0,
              inl (r, refl),
              Connected-trans links g (get_or forest.edge x 0) (get_or forest.edge r.root 0)
                  (linked_to g x lt (deeper_end es n forest (get_or es g (0, 0)) v x searched.placed ltx j a
                  (λ same. differ (sym same))))
                  (climb_links es n forest low links (num v) r.root x searched lows l ltx r.over low_x
                  (over_v x r)),
            )

-- the links of a search forest are block links
tree_links : (es : List (ℕ × ℕ)) (n : ℕ) (forest : Forest) (low : List ℕ) (links : List (ℕ × ℕ)) → AreWithin n es
    → HaveNoLoop es → IsSearchForest es n forest → AreLowPoints es n forest low
    → AreTreeLinks es forest low (length es) n links → AreBlockLinks es n links
tree_links es n forest low links w none searched lows l = record {
  within = links_in_blocks es n forest low links w none searched lows l;
  connects = links_connect es n forest low links w none searched lows l;
}

-- what a list with one more item contains
contains_last : {X : Type 0} (xs : List X) (x y : X) → Contains (xs ++ x ∷ []) y → Contains xs y ⊎ (x ≡ y)
contains_last xs x y c = ⊎_elim (λ l. inl l)
    (λ r. ⊎_elim (λ e. inr e) (λ n. absurd (omega (arith, n.1))) (Contains-split x y [] r))
    (Contains-append_cases xs (x ∷ []) y c)

-- one edge more is linked
AreEdgeLinks-more : (es : List (ℕ × ℕ)) (forest : Forest) (edges : ℕ) (links more : List (ℕ × ℕ))
    → AreEdgeLinks es forest edges links → more ≡ links ++ edge_link es forest edges ∷ []
    → AreEdgeLinks es forest (edges + 1) more
AreEdgeLinks-more es forest edges links more l is =
    subst (AreEdgeLinks es forest (edges + 1)) (sym is) (record {
      each = λ e lt. ⊎_elim
          (λ same. Contains-append_right links (edge_link es forest edges ∷ []) (edge_link es forest e)
          (subst (λ (k : ℕ). Contains (edge_link es forest edges ∷ []) (edge_link es forest k)) (sym same)
          (Contains-head (edge_link es forest edges) [])))
          (λ ne. Contains-append_left links (edge_link es forest edges ∷ []) (edge_link es forest e)
          (l.each e (omega arith)))
          (cases_eq e edges);
      only = λ p c. ⊎_elim (λ o. let h = l.only p o in (h.0, omega (arith, h.1), h.2)) (λ e. (edges, omega arith, e))
          (contains_last links (edge_link es forest edges) p c);
    })

-- one vertex more is linked, where it leads past the one above it
pub AddsTreeLinks-more : (forest : Forest) (low : List ℕ) (vertices : ℕ) (before links more : List (ℕ × ℕ))
    → AddsTreeLinks forest low vertices before links → LinksUp forest low vertices links more
    → AddsTreeLinks forest low (vertices + 1) before more
AddsTreeLinks-more forest low vertices before links more l linked =
    ⊎_elim
    (λ yes. subst (AddsTreeLinks forest low (vertices + 1) before) (sym yes.1) (record {
      kept = λ p c. Contains-append_left links (link ∷ []) p (l.kept p c);
      each = λ v lt leads. ⊎_elim
          (λ same. Contains-append_right links (link ∷ []) (tree_link forest v)
          (subst (λ (k : ℕ). Contains (link ∷ []) (tree_link forest k)) (sym same) (Contains-head link [])))
          (λ ne. Contains-append_left links (link ∷ []) (tree_link forest v) (l.each v (omega arith) leads))
          (cases_eq v vertices);
      only = λ p c. ⊎_elim (λ o. older p (l.only p o)) (λ e. inr (vertices, omega arith, yes.0, e))
          (contains_last links link p c);
    }))
    (λ no. subst (AddsTreeLinks forest low (vertices + 1) before) (sym no.1) (record {
      kept = l.kept;
      each = λ v lt leads. ⊎_elim (λ same. absurd (no.0 (subst (LeadsPast forest low) same leads)))
          (λ ne. l.each v (omega arith) leads) (cases_eq v vertices);
      only = λ p c. older p (l.only p c);
    }))
    linked
  where
    -- the link of the vertex
    link : ℕ × ℕ
    link = tree_link forest vertices

    -- a link from before is one of the longer list
    older : (p : ℕ × ℕ) → Contains before p
        ⊎ ((v : ℕ) × (v < vertices) × LeadsPast forest low v × (tree_link forest v ≡ p)) → Contains before p
        ⊎ ((v : ℕ) × (v < vertices + 1) × LeadsPast forest low v × (tree_link forest v ≡ p))
    older p o = ⊎_elim (λ b. inl b) (λ h. inr (h.0, omega (arith, h.1), h.2, h.3)) o

-- the links of all edges and vertices are block links
pub all_links : (es : List (ℕ × ℕ)) (n : ℕ) (forest : Forest) (low : List ℕ) (before links : List (ℕ × ℕ))
    → AreWithin n es
    → HaveNoLoop es → IsSearchForest es n forest → AreLowPoints es n forest low
    → AreEdgeLinks es forest (length es) before → AddsTreeLinks forest low n before links
    → AreBlockLinks es n links
all_links es n forest low before links w none searched lows first more =
    tree_links es n forest low links w none searched lows (record {
      each_edge = λ e lt. more.kept (edge_link es forest e) (first.each e lt);
      each_vertex = more.each;
      only = λ p c. ⊎_elim (λ b. inl (first.only p b)) (λ h. inr h) (more.only p c);
    })

-- the vertex above a vertex is a vertex
pub parent_within : (es : List (ℕ × ℕ)) (n : ℕ) (forest : Forest) (v : ℕ) → IsSearchForest es n forest
    → v < n → get_or forest.parent v 0 < n
parent_within es n forest v searched lt =
    ⊎_elim (λ root. omega (arith, root)) (λ h. h.within) (searched.placed v lt)

-- the deeper end is one of the ends
deeper_within : (n : ℕ) (number : List ℕ) (p : ℕ × ℕ) → p.0 < n → p.1 < n → deeper number p < n
deeper_within n number p first second =
    ⊎_elim
    (λ lt. subst (λ (z : ℕ). z < n)
    (sym (ap (λ t. cond t p.1 p.0) (lt-ltb (get_or number p.0 0) (get_or number p.1 0) lt))) second)
    (λ ge. subst (λ (z : ℕ). z < n)
    (sym (ap (λ t. cond t p.1 p.0) (le-ltb (get_or number p.0 0) (get_or number p.1 0) ge))) first)
    (cases_lt (get_or number p.0 0) (get_or number p.1 0))

-- one edge more is linked, as a program reads it
pub edge_step : (es : List (ℕ × ℕ)) (forest : Forest) (seen : List ℕ) (edges vertex value : ℕ)
    (links more : List (ℕ × ℕ))
    → AreWithin (length forest.number) es → length forest.edge ≡ length forest.number → edges < length es
    → AreEdgeLinks es forest edges links
    → seen ≡ forest.number → vertex ≡ deeper seen (get_or es edges (0, 0)) → value ≡ get_or forest.edge vertex value
    → more ≡ links ++ (edges, value) ∷ [] → AreEdgeLinks es forest (edges + 1) more
edge_step es forest seen edges vertex value links more w size lt l seen_is vertex_is value_is more_is =
    let pair = w edges lt in
    let at : vertex ≡ deeper forest.number (get_or es edges (0, 0)) = vertex_is
    ∙ ap (λ (xs : List ℕ). deeper xs (get_or es edges (0, 0))) seen_is in
    let within : vertex < length forest.edge =
    omega (
      arith,
      size,
      at,
      deeper_within (length forest.number) forest.number
          (get_or es edges (0, 0)) pair.0 pair.1,
    ) in
    let read : value ≡ get_or forest.edge (deeper forest.number (get_or es edges (0, 0))) 0 =
    get_or_read forest.edge vertex value within value_is 0 ∙ ap (λ (k : ℕ). get_or forest.edge k 0) at in
    AreEdgeLinks-more es forest edges links more l (more_is ∙ ap (λ (k : ℕ). links ++ (edges, k) ∷ []) read)

-- all links are block links, as a program reads the graph and the lists
pub read_links : (es read : List (ℕ × ℕ)) (n m k : ℕ) (forest : Forest) (low seen : List ℕ)
    (before links : List (ℕ × ℕ))
    → read ≡ es → m ≡ n → k ≡ n → seen ≡ low → AreWithin n es → HaveNoLoop es
    → IsSearchForest read m forest → AreLowPoints read k forest low
    → AreEdgeLinks read forest (length read) before → AddsTreeLinks forest seen (length seen) before links
    → AreBlockLinks es n links
read_links es read n m k forest low seen before links read_is m_is k_is seen_is w none searched lows first more =
    let found : AreLowPoints es n forest low =
    subst (λ (j : ℕ). AreLowPoints es j forest low) k_is
    (subst (λ (fs : List (ℕ × ℕ)). AreLowPoints fs k forest low) read_is lows) in
    all_links es n forest low before links w none
    (subst (λ (j : ℕ). IsSearchForest es j forest) m_is
    (subst (λ (fs : List (ℕ × ℕ)). IsSearchForest fs m forest) read_is searched))
    found
    (subst (λ (fs : List (ℕ × ℕ)). AreEdgeLinks fs forest (length fs) before) read_is first)
    (subst (λ (j : ℕ). AddsTreeLinks forest low j before links) found.each
    (subst (λ (xs : List ℕ). AddsTreeLinks forest xs (length xs) before links) seen_is more))
