-- A block stays connected where a vertex is removed, and a simple path between two of its vertices lies in it.
use Rattle.std.proofs.Common.{◌≡◌, ◌≢◌, ℕ, ◌/◌, ◌<◌, List, [], ◌∷◌, length, get_or, sym, ap, ◌∙◌, subst, ⊎_elim, arith}
use Rattle.std.proofs.lemmas.Bool.{cases_eq}
use Rattle.cp_orbits.specs.Classes.{labels}
use Rattle.cp_orbits.specs.Connected.{Joins, Connected, here}
use Rattle.cp_orbits.proofs.ClassLabels.{Connected-sym, Connected-trans, connected_labels}
use Rattle.cp_conn.specs.Blocks.{HaveNoLoop, AreInOneBlock, HasEdge}
use Rattle.cp_conn.specs.CutVertex.{avoids, without_vertex}
use Rattle.cp_conn.specs.Darts.{start, finish}
use Rattle.cp_conn.proofs.BlockClasses.{block-sym, block-trans, carry_block}
use Rattle.cp_conn.proofs.BlockSteps.{HasEdge-cases}
use Rattle.cp_conn.proofs.CutBlocks.{parts_are_blocks}
use Rattle.cp_conn.proofs.CutVertices.{avoids_of, kept_of}
use Rattle.cp_conn.proofs.DartChains.{Contains-at, Joins-sym, dart_joins, labels_joined}
use Rattle.cp_conn.proofs.EdgeEnds.{end_cases, ends_differ}
use Rattle.cp_conn.proofs.OneBlock.{one_block_at, clear_dart}
use Rattle.cp_conn.proofs.Paths.{Leads, Misses, Apart}

-- the ends of an edge that does not touch v are connected without v
pub edge_label : (es : List (ℕ × ℕ)) (v e x y : ℕ) → e < length es → Joins (get_or es e (0, 0)) x y → x ≢ v → y ≢ v
    → labels (without_vertex v es) x ≡ labels (without_vertex v es) y
edge_label es v e x y lt j nex ney =
    labels_joined (without_vertex v es) (get_or es e (0, 0)) x y
    (kept_of (avoids v) es (get_or es e (0, 0)) (Contains-at es e lt)
    (⊎_elim
    (λ h. avoids_of v (get_or es e (0, 0)) (λ f. nex (sym h.0 ∙ f)) (λ f. ney (sym h.1 ∙ f)))
    (λ h. avoids_of v (get_or es e (0, 0)) (λ f. ney (sym h.0 ∙ f)) (λ f. nex (sym h.1 ∙ f)))
    j))
    j

-- the ends of edge f other than v are labelled l without v
abbrev AreLabelled : List (ℕ × ℕ) → ℕ → ℕ → ℕ → Type 0
AreLabelled es v l f = (z w : ℕ) → Joins (get_or es f (0, 0)) z w → z ≢ v → labels (without_vertex v es) z ≡ l

-- the label goes on to an edge of the same block that shares a vertex
label_step : (es : List (ℕ × ℕ)) (v l f h u x y : ℕ) → HaveNoLoop es → f < length es → h < length es
    → Joins (get_or es f (0, 0)) u x → Joins (get_or es h (0, 0)) u y → AreInOneBlock es f h
    → AreLabelled es v l f → AreLabelled es v l h
label_step es v l f h u x y none ltf lth jf jh block p z w j ne =
    ⊎_elim
    (λ at. ⊎_elim (λ e. absurd (ne (e ∙ at))) (λ e. ap g e ∙ across at) (end_cases (get_or es h (0, 0)) u y z w jh j))
    (λ off. ⊎_elim
    (λ e. ap g e ∙ p u x jf off)
    (λ e. ap g e ∙ sym (edge_label es v h u y lth jh off (λ k. ne (e ∙ k))) ∙ p u x jf off)
    (end_cases (get_or es h (0, 0)) u y z w jh j))
    (cases_eq u v)
  where
    -- the label of a vertex where v is removed
    g : ℕ → ℕ
    g a = labels (without_vertex v es) a

    -- where the two edges meet at v, the other end of the second edge has the label
    across : u ≡ v → g y ≡ l
    across at =
        let jf_v : Joins (get_or es f (0, 0)) v x = subst (λ (a : ℕ). Joins (get_or es f (0, 0)) a x) at jf in
        let jh_v : Joins (get_or es h (0, 0)) v y = subst (λ (a : ℕ). Joins (get_or es h (0, 0)) a y) at jh in
        let nex : x ≢ v = ends_differ es f v x none ltf jf_v in
        let ney : y ≢ v = ends_differ es h v y none lth jh_v in
        sym ((one_block_at es v f h x y ltf lth jf_v jh_v nex ney).0 block)
        ∙ p x u (Joins-sym (get_or es f (0, 0)) u x jf) nex

-- the ends of edges of one block stay connected where another vertex is removed
pub block_ends_connected : (es : List (ℕ × ℕ)) (v e f x y w z : ℕ) → HaveNoLoop es → e < length es → f < length es
    → Joins (get_or es e (0, 0)) x w → Joins (get_or es f (0, 0)) y z → x ≢ v → y ≢ v → AreInOneBlock es e f
    → Connected (without_vertex v es) x y
block_ends_connected es v e f x y w z none lte ltf je jf nex ney b =
    connected_labels (without_vertex v es) x y
    (sym (carry_block es (AreLabelled es v (labels (without_vertex v es) x)) e f b
    (λ g h u a c ltg lth jg jh block p.
    label_step es v (labels (without_vertex v es) x) g h u a c none ltg lth jg jh block p)
    (λ t s j ne. ⊎_elim
    (λ k. ap (labels (without_vertex v es)) k)
    (λ k. ap (labels (without_vertex v es)) k
    ∙ sym (edge_label es v e x w lte je nex (λ q. ne (k ∙ q))))
    (end_cases (get_or es e (0, 0)) x w t s je j))
    y z jf ney))

-- darts that lead from x to y and do not start at v connect the two without v
pub Leads-connects : (es : List (ℕ × ℕ)) (v x y : ℕ) (ds : List ℕ) → Leads es x ds y → Misses es v ds → y ≢ v
    → Connected (without_vertex v es) x y
Leads-connects es v x y [] l m ne = subst (Connected (without_vertex v es) x) l here
Leads-connects es v x y (d ∷ ds) l m ne =
    let rest : Connected (without_vertex v es) (finish es d) y = Leads-connects es v (finish es d) y ds l.2 m.1 ne in
    subst (λ (u : ℕ). Connected (without_vertex v es) u y) l.1
    (Connected-trans (without_vertex v es) (start es d) (finish es d) y
    (connected_labels (without_vertex v es) (start es d) (finish es d)
    (clear_dart es v d l.0 m.0 (after ds l.2 m.1)))
    rest)
  where
    -- the next dart starts elsewhere than at v, and the last ends elsewhere
    after : (fs : List ℕ) → Leads es (finish es d) fs y → Misses es v fs → finish es d ≢ v
    after [] k n same = ne (sym k ∙ same)
    after (f ∷ fs) k n same = n.0 (k.1 ∙ same)

-- a simple path that leaves a vertex of a block and ends at another has all its edges in the block
pub path_in_block : (es : List (ℕ × ℕ)) (e f x y w z : ℕ) (ds : List ℕ) → HaveNoLoop es → e < length es → f < length es
    → Joins (get_or es e (0, 0)) x w → Joins (get_or es f (0, 0)) y z → AreInOneBlock es e f
    → Leads es x ds y → Apart es ds → Misses es y ds → (g : ℕ) → HasEdge ds g → AreInOneBlock es e g
path_in_block es e f x y w z [] none lte ltf je jf b l a m g h = absurd (omega (arith, h.1))
path_in_block es e f x y w z (d ∷ ds) none lte ltf je jf b l a m g h =
    ⊎_elim
    (λ one. subst (AreInOneBlock es e) (single one.0 one.1 one.2) first)
    (λ more. block-trans es e (d / 2) g none first
    (path_in_block es (d / 2) f (finish es d) y (start es d) z ds none edge ltf
    (Joins-sym (get_or es (d / 2) (0, 0)) (start es d) (finish es d) joins) jf
    (block-trans es (d / 2) e f none (block-sym es e (d / 2) first) b) l.2 a.1 m.1 g more))
    (HasEdge-cases g (d ∷ []) ds h)
  where
    -- the edge of the first dart is one of the graph
    edge : d / 2 < length es
    edge = omega (arith, l.0)

    -- that edge joins the two ends of the dart
    joins : Joins (get_or es (d / 2) (0, 0)) (start es d) (finish es d)
    joins = dart_joins es d l.0

    -- that edge joins x to the end of the dart
    joins_x : Joins (get_or es (d / 2) (0, 0)) x (finish es d)
    joins_x = subst (λ (u : ℕ). Joins (get_or es (d / 2) (0, 0)) u (finish es d)) l.1 joins

    -- the path ends at another vertex than it leaves
    other : y ≢ x
    other same = m.0 (l.1 ∙ sym same)

    -- the far end of the first dart is connected with y, and so with the far end of e, without x
    first : AreInOneBlock es e (d / 2)
    first =
        (parts_are_blocks es x e (d / 2) w (finish es d) none lte edge je joins_x).1
        (Connected-trans (without_vertex x es) w y (finish es d)
        (block_ends_connected es x e f w y x z none lte ltf (Joins-sym (get_or es e (0, 0)) x w je) jf
        (ends_differ es e x w none lte je) other b)
        (Connected-sym (without_vertex x es) (finish es d) y
        (Leads-connects es x (finish es d) y ds l.2 (subst (λ (u : ℕ). Misses es u ds) l.1 a.0) other)))

    -- the edge of a single dart is that of the first
    single : (i : ℕ) → i < length (d ∷ []) → get_or (d ∷ []) i 0 / 2 ≡ g → d / 2 ≡ g
    single i lt k = let at : i ≡ 0 = omega arith in ap (λ (j : ℕ). get_or (d ∷ []) j 0 / 2) (sym at) ∙ k
