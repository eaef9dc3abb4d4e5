-- The lists are unwound from a pair of the tree.
use Rattle.std.proofs.Common.{take, ap, ◌∙◌, subst}
use Rattle.cp_base.specs.Bits.{bit_of}
use Rattle.cp_pq.specs.Trees.{PQTree, IsPair}
use Rattle.cp_embed.specs.Embeddings.{Embedding}
use Rattle.cp_embed.specs.Unwound.{AreUnwound}
use Rattle.cp_flip.proofs.BlockParts.{unwound-AreDirectedLists}
use Rattle.cp_flip.proofs.gluing.directed_lists.Goals as goal

pub returns : goal.returns
returns g c =
    let m = c.args.found.now.embedding in
    let bits = c.args.bits.now in
    let same = c.embedded-embedded.ensures in
    let n = c.vars.ensures.value ∙ ap (λ (t : PQTree). t.vars) (c.tree-2.ensures.value ∙ ap (λ (e : Embedding). e.tree) same) in
    unwound-AreDirectedLists m.block m.vertex m.tree c.args.found.now.tree c.in_ok-order.order bits
    c.in_ok-lists.lists.items c.tree.ensures.exact
    (subst (λ (t : PQTree). IsPair t c.in_ok-order.order bits) c.tree.ensures.value c.in_ok-order.ensures)
    (subst (λ k. AreUnwound m.block m.vertex c.in_ok-order.order (bit_of (take k bits)) c.in_ok-lists.lists.items) n
    (subst (λ (e : Embedding). AreUnwound e.block e.vertex c.in_ok-order.order (bit_of (take c.vars.result bits))
    c.in_ok-lists.lists.items) same c.in_ok-lists.ensures))
