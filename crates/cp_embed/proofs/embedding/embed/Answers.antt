-- Step by step the tree is built; the last one is that of the vertex.
use Rattle.std.proofs.Common.{◌≡◌, ℕ, suc, ◌+◌, ◌-◌, ◌<◌, ◌≤◌, true, List, [], ◌∷◌, ◌++◌, length, reverse, sym, ap, subst, arith, length-append}
use Rattle.std.proofs.lemmas.List.{get_or_read}
use Rattle.std.proofs.lemmas.Result.{err_from_is_err_and}
use Rattle.cp_embed.specs.declared.taking.Frame.{Frame}
use Rattle.cp_embed.specs.BuiltTrees.{IsBuilt}
use Rattle.cp_embed.specs.Embeddings.{IsEmbeddingTree, IsNeverEmbedded}
use Rattle.cp_embed.specs.ListedBlocks.{touches}
use Rattle.cp_embed.proofs.BuiltTrees.{built-stage, built_more, refused-IsNeverEmbedded, built-IsEmbeddingTree, pairless-IsNeverEmbedded, built-IsUnwindable}
use Rattle.cp_embed.proofs.StageTrees.{order-long}
use Rattle.cp_embed.proofs.embedding.embed.Goals as goal

-- one frame more
one_more : (frames new : List Frame) (frame : Frame) (place : ℕ) → suc (length frames) ≡ place
    → new ≡ frames ++ frame ∷ [] → suc (length new) ≡ place + 1
one_more frames new frame place count is = omega (arith, count, ap length is, length-append frames (frame ∷ []))

-- behind the last place there is a frame for each vertex but two
all_framed : (count place len last : ℕ) → suc count ≡ place → len - 1 ≤ place → (1 ≤ len - 1 → place ≤ len - 1)
    → 1 < len → last ≡ len → suc (suc count) ≡ last
all_framed count place len last count_is past upto long same =
    let le : place ≤ len - 1 = upto (omega (arith, long)) in
    omega (arith, count_is, past, le, long, same)

pub returns-in_err-tree-clause-refused : goal.returns-in_err-tree-clause-refused
returns-in_err-tree-clause-refused g c =
    let p = err_from_is_err_and c.from_residual-in_err-tree.result c.from_residual-in_err-tree.ensures.1 in
    rw (p.1, p.2) (λ fault. subst (IsNeverEmbedded c.args.block.now) c.in_ok-order.ensures.last (c.in_err-tree.ensures.refused fault))

pub loop-place-init : goal.loop-place-init
loop-place-init g c =
    record {
      count = ap (λ (fs : List Frame). suc (length fs)) c.new-frames.ensures;
      built = subst (λ (fs : List Frame). IsBuilt c.args.block.now c.in_ok-order.order.vertices.items c.in_ok-order.order.later.items c.in_ok-order.order.root
          (reverse fs) (g.T.OrderTree.tree c.in_ok-tree.tree)) (sym c.new-frames.ensures) (c.in_ok-tree.ensures.stage, c.in_ok-tree.ensures.owner, c.in_ok-tree.ensures.free);
    }

pub take-requires-clause-order : goal.take-requires-clause-order
take-requires-clause-order g c =
    c.in_ok-order.ensures.order

pub take-requires-clause-stage : goal.take-requires-clause-stage
take-requires-clause-stage g c =
    built-stage c.args.block.now c.in_ok-order.ensures.block c.in_ok-order.order.vertices.items
    c.in_ok-order.order.later.items c.in_ok-order.order.root c.in_ok-order.ensures.order
    c.loop-place.frames (g.T.OrderTree.tree c.loop-place.tree) c.loop-place.place c.loop-place.invariant.count c.loop-place.invariant.built

pub returns-in_err-next-clause-refused : goal.returns-in_err-next-clause-refused
returns-in_err-next-clause-refused g c =
    let p = err_from_is_err_and c.from_residual-in_err-next.result c.from_residual-in_err-next.ensures.1 in
    rw (p.1, p.2) (λ fault. subst (IsNeverEmbedded c.args.block.now) c.in_ok-order.ensures.last
    (refused-IsNeverEmbedded c.args.block.now c.in_ok-order.ensures.block c.in_ok-order.order.vertices.items
    c.in_ok-order.order.later.items c.in_ok-order.order.root c.in_ok-order.ensures.order
    (g.T.OrderTree.tree c.loop-place.tree) c.loop-place.place (omega arith) (omega (arith, c.loop-place-test.true, c.len-place-end.ensures))
    (built-stage c.args.block.now c.in_ok-order.ensures.block c.in_ok-order.order.vertices.items
    c.in_ok-order.order.later.items c.in_ok-order.order.root c.in_ok-order.ensures.order
    c.loop-place.frames (g.T.OrderTree.tree c.loop-place.tree) c.loop-place.place c.loop-place.invariant.count c.loop-place.invariant.built)
    (c.in_err-next.ensures.refused fault)))

pub loop-place-preserved : goal.loop-place-preserved
loop-place-preserved g c =
    record {
      count = one_more c.loop-place.frames c.push.new.self c.in_ok-next.frame c.loop-place.place c.loop-place.invariant.count
          c.in_ok-push.ensures.ok;
      built = subst (λ (fs : List Frame). IsBuilt c.args.block.now c.in_ok-order.order.vertices.items c.in_ok-order.order.later.items c.in_ok-order.order.root
          (reverse fs) (g.T.OrderTree.tree c.in_ok-next.next)) (sym c.in_ok-push.ensures.ok)
          (built_more c.args.block.now c.in_ok-order.ensures.block c.in_ok-order.order.vertices.items
          c.in_ok-order.order.later.items c.in_ok-order.order.root c.in_ok-order.ensures.order
          c.loop-place.frames c.in_ok-next.frame (g.T.OrderTree.tree c.loop-place.tree) (g.T.OrderTree.tree c.in_ok-next.next) c.loop-place.place
          c.loop-place.invariant.count (omega (arith, c.loop-place-test.true, c.len-place-end.ensures)) c.loop-place.invariant.built
          c.in_ok-next.ensures.formed c.in_ok-next.ensures.vertex c.in_ok-next.ensures.outs c.in_ok-next.ensures.step);
    }

pub returns-in_err-has_pair-clause-refused : goal.returns-in_err-has_pair-clause-refused
returns-in_err-has_pair-clause-refused g c =
    let p = err_from_is_err_and c.from_residual-in_err-has_pair.result c.from_residual-in_err-has_pair.ensures.1 in
    rw (p.1, p.2) (λ fault. subst (IsNeverEmbedded c.args.block.now) c.in_ok-order.ensures.last
    (pairless-IsNeverEmbedded c.args.block.now c.in_ok-order.ensures.block c.in_ok-order.order.vertices.items
    c.in_ok-order.order.later.items c.in_ok-order.order.root c.in_ok-order.ensures.order
    c.loop-place.frames (g.T.OrderTree.tree c.loop-place.tree) (all_framed (length c.loop-place.frames) c.loop-place.place c.len-place-end.result (length c.in_ok-order.order.vertices.items)
    c.loop-place.invariant.count (omega (arith, c.loop-place-test.false)) c.loop-place.auto.place-end
    (omega (
      arith,
      order-long c.args.block.now c.in_ok-order.ensures.block c.in_ok-order.order.vertices.items
          c.in_ok-order.order.later.items c.in_ok-order.order.root c.in_ok-order.ensures.order,
      c.len-place-end.ensures,
    )) (omega (arith, c.len-place-end.ensures))) c.loop-place.invariant.built
    (c.in_err-has_pair.ensures.none fault)))

pub returns-clause-tree : goal.returns-clause-tree
returns-clause-tree g c =
    subst (λ v. IsEmbeddingTree c.args.block.now v (g.T.OrderTree.tree c.loop-place.tree)) c.in_ok-order.ensures.last
    (built-IsEmbeddingTree c.args.block.now c.in_ok-order.ensures.block c.in_ok-order.order.vertices.items
    c.in_ok-order.order.later.items c.in_ok-order.order.root c.in_ok-order.ensures.order
    c.loop-place.frames (g.T.OrderTree.tree c.loop-place.tree) (all_framed (length c.loop-place.frames) c.loop-place.place c.len-place-end.result (length c.in_ok-order.order.vertices.items)
    c.loop-place.invariant.count (omega (arith, c.loop-place-test.false)) c.loop-place.auto.place-end
    (omega (
      arith,
      order-long c.args.block.now c.in_ok-order.ensures.block c.in_ok-order.order.vertices.items
          c.in_ok-order.order.later.items c.in_ok-order.order.root c.in_ok-order.ensures.order,
      c.len-place-end.ensures,
    )) (omega (arith, c.len-place-end.ensures))) c.loop-place.invariant.built
    (subst (λ v. (k : ℕ) → k < length c.args.block.now.graph.ends → touches c.args.block.now.graph.ends v k ≡ true
    → c.in_ok-order.order.root ≤ k) (sym c.in_ok-order.ensures.last) c.in_ok-order.ensures.least)
    c.in_ok-has_pair.ensures.some)

pub invariant_of-result : goal.invariant_of-result
invariant_of-result g c = (
  subst (λ b. IsEmbeddingTree b c.args.t (g.T.OrderTree.tree c.loop-place.tree)) (sym c.in_ok-block.ensures)
      (subst (λ v. IsEmbeddingTree c.args.block.now v (g.T.OrderTree.tree c.loop-place.tree)) c.in_ok-order.ensures.last
      (built-IsEmbeddingTree c.args.block.now c.in_ok-order.ensures.block c.in_ok-order.order.vertices.items
      c.in_ok-order.order.later.items c.in_ok-order.order.root c.in_ok-order.ensures.order
      c.loop-place.frames (g.T.OrderTree.tree c.loop-place.tree) (all_framed (length c.loop-place.frames) c.loop-place.place c.len-place-end.result (length c.in_ok-order.order.vertices.items)
      c.loop-place.invariant.count (omega (arith, c.loop-place-test.false)) c.loop-place.auto.place-end
      (omega (
        arith,
        order-long c.args.block.now c.in_ok-order.ensures.block c.in_ok-order.order.vertices.items
            c.in_ok-order.order.later.items c.in_ok-order.order.root c.in_ok-order.ensures.order,
        c.len-place-end.ensures,
      )) (omega (arith, c.len-place-end.ensures))) c.loop-place.invariant.built
      (subst (λ v. (k : ℕ) → k < length c.args.block.now.graph.ends → touches c.args.block.now.graph.ends v k ≡ true
      → c.in_ok-order.order.root ≤ k) (sym c.in_ok-order.ensures.last) c.in_ok-order.ensures.least)
      c.in_ok-has_pair.ensures.some)),
  built-IsUnwindable c.args.block.now c.in_ok-order.ensures.block c.in_ok-order.order.vertices.items
      c.in_ok-order.order.later.items c.in_ok-order.order.root c.in_ok-order.ensures.order
      c.loop-place.frames (g.T.OrderTree.tree c.loop-place.tree) (all_framed (length c.loop-place.frames) c.loop-place.place c.len-place-end.result (length c.in_ok-order.order.vertices.items)
      c.loop-place.invariant.count (omega (arith, c.loop-place-test.false)) c.loop-place.auto.place-end
      (omega (
        arith,
        order-long c.args.block.now c.in_ok-order.ensures.block c.in_ok-order.order.vertices.items
            c.in_ok-order.order.later.items c.in_ok-order.order.root c.in_ok-order.ensures.order,
        c.len-place-end.ensures,
      )) (omega (arith, c.len-place-end.ensures))) c.loop-place.invariant.built c.in_ok-block.block c.args.t
      c.index-first.result.now c.in_ok-block.ensures c.in_ok-order.ensures.last
      (get_or_read c.in_ok-order.order.vertices.items 0 c.index-first.result.now
      (omega (
        arith,
        order-long c.args.block.now c.in_ok-order.ensures.block c.in_ok-order.order.vertices.items
            c.in_ok-order.order.later.items c.in_ok-order.order.root c.in_ok-order.ensures.order,
      )) c.index-first.ensures 0),
)
