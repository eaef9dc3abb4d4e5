-- What was gathered, sorted and rid of repeated vertices, are the vertices at the ends.
use Rattle.std.proofs.Common.{ℕ, eqb, List, ◌∙◌, subst}
use Rattle.std.specs.List.{Contains}
use Rattle.std.specs.List.Sorted.{IsPermutation}
use Rattle.std.proofs.lemmas.List.Elements.{All-contains}
use Rattle.std.proofs.lemmas.List.Filters.{dedup_is}
use Rattle.cp_board.specs.Instances.{edge_names, graph}
use Rattle.cp_embed.proofs.BoardBlocks.{live_ends}
use Rattle.cp_embed.proofs.BoardBlockCuts.{gathered-verts}
use Rattle.cp_embed.proofs.board_blocks.verts_of.Goals as goal

pub returns : goal.returns
returns g c =
    let i = g.B.Board.instance c.args.board.now in
    let es = c.args.edges.now in
    let sorted = c.sort_unstable.new.self.items in
    dedup_is eqb sorted c.dedup.new.self.items c.dedup.ensures.filtered
    ∙ gathered-verts (graph i) es sorted c.requires.rules.verts_named.rise
    (λ e k. let l = live_ends i c.requires.rules e (All-contains (Contains (edge_names i)) es e c.requires.live k) in
    (l.0, l.1))
    (subst (λ (xs : List ℕ). IsPermutation xs sorted) c.in_ok-verts.ensures c.sort_unstable.ensures.permutation)
    c.sort_unstable.ensures.sorted
