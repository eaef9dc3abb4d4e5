-- One edge more stands in the rows of its ends.
use Rattle.std.proofs.Common.{◌≡◌, ℕ, ◌+◌, ◌<◌, List, [], ◌∷◌, ◌++◌, length, get_or, set, refl, ap, ◌∙◌, arith, length-set}
use Rattle.std.proofs.lemmas.List.{get_or_read}
use Rattle.cp_base.specs.Graphs.{AreWithin}
use Rattle.cp_conn.specs.Blocks.{HaveNoLoop}
use Rattle.cp_embed.specs.ListedBlocks.{AreRowsOfEdges}
use Rattle.cp_embed.proofs.EdgeRows.{AreRowsOfEdges-more}
use Rattle.cp_embed.proofs.block.edges_by_vertex.Goals as goal

-- what is read and appended twice, in the rows' own terms
pushed_twice : (vertices : ℕ) (ends : List (ℕ × ℕ)) (k : ℕ) (rows : List (List ℕ)) (one two first second : List ℕ)
    → AreWithin vertices ends → HaveNoLoop ends → k < length ends → AreRowsOfEdges vertices ends k rows
    → first ≡ get_or rows (get_or ends k (0, 0)).0 first → one ≡ first ++ k ∷ []
    → second ≡ get_or (set rows (get_or ends k (0, 0)).0 one) (get_or ends k (0, 0)).1 second → two ≡ second ++ k ∷ []
    → AreRowsOfEdges vertices ends (k + 1)
    (set (set rows (get_or ends k (0, 0)).0 one) (get_or ends k (0, 0)).1 two)
pushed_twice vertices ends k rows one two first second within no_loop lt rows_are first_is one_is second_is two_is =
    let a : ℕ = (get_or ends k (0, 0)).0 in
    let b : ℕ = (get_or ends k (0, 0)).1 in
    AreRowsOfEdges-more vertices ends k rows a b one two rows_are refl refl (no_loop k lt) (within k lt).0
    (within k lt).1
    (one_is ∙ ap (λ (ks : List ℕ). ks ++ k ∷ [])
    (get_or_read rows a first (omega (arith, (within k lt).0, rows_are.row_each)) first_is []))
    (two_is ∙ ap (λ (ks : List ℕ). ks ++ k ∷ [])
    (get_or_read (set rows a one) b second (omega (arith, (within k lt).1, rows_are.row_each, length-set rows a one))
    second_is []))

pub loop-edge-preserved : goal.loop-edge-preserved
loop-edge-preserved c =
    pushed_twice c.args.vertices c.args.ends.now c.loop-edge.edge c.loop-edge.rows.items
    c.push.new.self c.push-in-loop-edge.new.self c.index_mut.result.now c.index_mut-in-loop-edge.result.now
    c.requires.within c.requires.no_loop (omega arith) c.loop-edge.invariant
    c.index_mut.ensures.value c.in_ok-push.ensures.ok c.index_mut-in-loop-edge.ensures.value c.in_ok-push-2.ensures.ok
