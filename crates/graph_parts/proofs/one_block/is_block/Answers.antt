-- The graph passed all tests but the last, which decides.
use Rattle.std.proofs.Common.{ℕ, ◌<◌, List, length, subst}
use Rattle.std.proofs.lemmas.Result.{IfOk-weaker}
use Rattle.cp_conn.specs.Blocks.{HaveNoLoop}
use Rattle.graph_parts.proofs.BlockLemmas.{filled}
use Rattle.graph_parts.proofs.one_block.is_block.Goals as goal

pub returns : goal.returns
returns c =
    let some : 0 < length c.args.g.now.ends =
    subst (λ (xs : List (ℕ × ℕ)). 0 < length xs) c.ends-ends.ensures.value
    (filled c.is_empty.result (length c.ends-ends.result.now) c.is_empty.ensures c.if-is_empty.false) in
    let none : HaveNoLoop c.args.g.now.ends =
    subst HaveNoLoop c.ends-ends.ensures.value (c.have_no_loop.ensures.0 c.if-not-have_no_loop.false) in
    IfOk-weaker c.have_edges.result _ _
    (λ each decides. (
      λ is. record {
        some = some;
        no_loop = none;
        one_block =
            c.in_ok-is_one_block.ensures.0 c.if-not-branch.false;
        each_has_edge = decides.0 is;
      },
      λ h. decides.1 h.each_has_edge,
    ))
    c.have_edges.ensures
