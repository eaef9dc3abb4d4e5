-- Cut vertices and blocks: the components that the edges of a vertex enter once it is removed are its blocks
-- (Whitney 1932; Hopcroft, Tarjan 1973).
use Rattle.std.proofs.Common.{ℕ, ◌<◌, ◌⊎◌, ◌↔◌, List, length, get_or, subst, sym, inl, inr, ⊎_elim}
use Rattle.cp_orbits.specs.Connected.{Joins, Connected}
use Rattle.cp_orbits.proofs.ClassLabels.{connected_labels, labels_connected, connected_cases}
use Rattle.cp_conn.specs.Blocks.{HaveNoLoop, AreInOneBlock, Touches}
use Rattle.cp_conn.specs.CutVertex.{without_vertex, IsCutVertex}
use Rattle.cp_conn.proofs.DartChains.{Contains-at, pair_at}
use Rattle.cp_conn.proofs.EdgeEnds.{ends_differ, joins_touch, touch_joins}
use Rattle.cp_conn.proofs.OneBlock.{one_block_at}

-- two edges at v are in one block exactly where their other ends are connected without v
pub parts_are_blocks : (es : List (ℕ × ℕ)) (v e f x y : ℕ) → HaveNoLoop es → e < length es → f < length es
    → Joins (get_or es e (0, 0)) v x → Joins (get_or es f (0, 0)) v y
    → AreInOneBlock es e f ↔ Connected (without_vertex v es) x y
parts_are_blocks es v e f x y none lte ltf je jf =
    let at =
    one_block_at es v e f x y lte ltf je jf
    (ends_differ es e v x none lte je) (ends_differ es f v y none ltf jf) in
    (λ b. connected_labels (without_vertex v es) x y (at.0 b), λ c. at.1 (labels_connected (without_vertex v es) x y c))

-- two edges at one vertex are in one block or not
pub block_cases_at : (es : List (ℕ × ℕ)) (v e f x y : ℕ) → HaveNoLoop es → e < length es → f < length es
    → Joins (get_or es e (0, 0)) v x → Joins (get_or es f (0, 0)) v y
    → AreInOneBlock es e f ⊎ (AreInOneBlock es e f → ⊥)
block_cases_at es v e f x y none lte ltf je jf =
    let at = parts_are_blocks es v e f x y none lte ltf je jf in
    ⊎_elim (λ c. inl (at.1 c)) (λ apart. inr (λ b. apart (at.0 b))) (connected_cases (without_vertex v es) x y)

-- two edges at v are in different blocks
pub record HasBlocksApart (es : List (ℕ × ℕ)) (v : ℕ) : Type 0 where
  pub one : ℕ
  pub two : ℕ
  pub one_within : one < length es
  pub two_within : two < length es
  pub one_touches : Touches es v one
  pub two_touches : Touches es v two
  pub apart : AreInOneBlock es one two → ⊥

-- a cut vertex is one at which two edges are in different blocks
pub cut_vertex_by_blocks : (es : List (ℕ × ℕ)) (v : ℕ) → HaveNoLoop es → IsCutVertex es v ↔ HasBlocksApart es v
cut_vertex_by_blocks es v none = (blocks, cuts)
  where
    -- at a cut vertex two edges are in different blocks
    blocks : IsCutVertex es v → HasBlocksApart es v
    blocks cut =
        let e : ℕ = cut.near_one.contained.0 in
        let f : ℕ = cut.near_two.contained.0 in
        let je : Joins (get_or es e (0, 0)) v cut.one =
        subst (λ (p : ℕ × ℕ). Joins p v cut.one)
        (sym (pair_at es cut.near_one.pair cut.near_one.contained)) cut.near_one.joined in
        let jf : Joins (get_or es f (0, 0)) v cut.two =
        subst (λ (p : ℕ × ℕ). Joins p v cut.two)
        (sym (pair_at es cut.near_two.pair cut.near_two.contained)) cut.near_two.joined in
        let lte : e < length es = cut.near_one.contained.1 in
        let ltf : f < length es = cut.near_two.contained.1 in
        record {
          one = e;
          two = f;
          one_within = lte;
          two_within = ltf;
          one_touches = joins_touch es v cut.one e je;
          two_touches = joins_touch es v cut.two f jf;
          apart = λ b. cut.apart ((parts_are_blocks es v e f cut.one cut.two none lte ltf je jf).0 b);
        }

    -- a vertex with edges in different blocks is a cut vertex
    cuts : HasBlocksApart es v → IsCutVertex es v
    cuts h =
        let x : (w : ℕ) × Joins (get_or es h.one (0, 0)) v w = touch_joins es v h.one h.one_touches in
        let y : (w : ℕ) × Joins (get_or es h.two (0, 0)) v w = touch_joins es v h.two h.two_touches in
        record {
          one = x.0;
          two = y.0;
          near_one = record {
            pair = get_or es h.one (0, 0);
            contained = Contains-at es h.one h.one_within;
            joined = x.1;
            other = ends_differ es h.one v x.0 none h.one_within x.1;
          };
          near_two = record {
            pair = get_or es h.two (0, 0);
            contained = Contains-at es h.two h.two_within;
            joined = y.1;
            other = ends_differ es h.two v y.0 none h.two_within y.1;
          };
          apart = λ c. h.apart ((parts_are_blocks es v h.one h.two x.0 y.0 none h.one_within h.two_within x.1 y.1).1 c);
        }

-- all edges at a vertex that is no cut vertex are in one block
pub one_block_uncut : (es : List (ℕ × ℕ)) (v e f : ℕ) → HaveNoLoop es → (IsCutVertex es v → ⊥)
    → e < length es → f < length es → Touches es v e → Touches es v f → AreInOneBlock es e f
one_block_uncut es v e f none uncut lte ltf te tf =
    let x : (w : ℕ) × Joins (get_or es e (0, 0)) v w = touch_joins es v e te in
    let y : (w : ℕ) × Joins (get_or es f (0, 0)) v w = touch_joins es v f tf in
    ⊎_elim
    (λ b. b)
    (λ apart. absurd (uncut ((cut_vertex_by_blocks es v none).1 (record {
      one = e;
      two = f;
      one_within = lte;
      two_within = ltf;
      one_touches = te;
      two_touches = tf;
      apart = apart;
    }))))
    (block_cases_at es v e f x.0 y.0 none lte ltf x.1 y.1)
