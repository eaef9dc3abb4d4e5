-- The first edge of the vertex is one of its edges, and its block is cut out.
use Rattle.std.proofs.Common.{◌≡◌, ℕ, ◌<◌, List, length, slice_index, sym, ap, ◌∙◌, subst, arith}
use Rattle.std.specs.List.{Contains}
use Rattle.std.proofs.lemmas.List.Elements.{Contains-get_or}
use Rattle.cp_board.specs.Instances.{edges_of, graph}
use Rattle.cp_embed.specs.BoardBlocks.{AreBlockEdges, listed_part, part_with}
use Rattle.cp_tree.proofs.trees.cut_at.Goals as goal

-- the first edge is one of u
first_own : (xs es : List ℕ) (first : ℕ) → xs ≡ es → 0 < length es → first ≡ slice_index xs 0 → Contains es first
first_own xs es first same some is_first =
    subst (Contains es) (sym (is_first ∙ ap (λ (ys : List ℕ). slice_index ys 0) same)) (Contains-get_or es 0 0 some)

pub item_at-first-requires : goal.item_at-first-requires
item_at-first-requires g c =
    let i = g.B.Board.instance c.args.board.now in
    let same : c.as_slice.result.now ≡ edges_of i c.args.u = c.as_slice.ensures.value ∙ c.in_ok-at.ensures.names in
    let count = ap length same in
    omega (arith, count, c.requires.some)

pub own_block-requires-clause-at : goal.own_block-requires-clause-at
own_block-requires-clause-at g c =
    first_own c.as_slice.result.now (edges_of (g.B.Board.instance c.args.board.now) c.args.u) c.item_at-first.result
    (c.as_slice.ensures.value ∙ c.in_ok-at.ensures.names) c.requires.some c.item_at-first.ensures

pub cut_out-requires-clause-block : goal.cut_out-requires-clause-block
cut_out-requires-clause-block g c = (
  c.item_at-first.result,
  subst (AreBlockEdges (g.B.Board.instance c.args.board.now) c.item_at-first.result) (sym c.as_slice-2.ensures.value)
      c.in_ok-block.ensures,
)

pub returns : goal.returns
returns g c =
    let i = g.B.Board.instance c.args.board.now in
    let edges_are = c.in_ok-cut.ensures.edges in
    record {
      edge = c.item_at-first.result;
      at = first_own c.as_slice.result.now (edges_of i c.args.u) c.item_at-first.result
          (c.as_slice.ensures.value ∙ c.in_ok-at.ensures.names) c.requires.some c.item_at-first.ensures;
      edges = subst (AreBlockEdges i c.item_at-first.result) (sym (edges_are ∙ c.as_slice-2.ensures.value))
          c.in_ok-block.ensures;
      verts = c.in_ok-cut.ensures.verts ∙ ap (λ (xs : List ℕ). (part_with (graph i) xs).verts) (sym edges_are);
      block = c.in_ok-cut.ensures.block ∙ ap (listed_part i) (sym edges_are);
    }
