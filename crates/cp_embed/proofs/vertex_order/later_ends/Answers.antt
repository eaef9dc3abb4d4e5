-- One edge more has its later end.
use Rattle.std.proofs.Common.{ℕ, ◌<◌, cond, List, length, slice_index, slice_index_or, sym, refl, ap, ◌∙◌, subst, arith}
use Rattle.std.specs.Prelude.{nat_lt}
use Rattle.cp_embed.specs.VertexOrders.{IsLaterEnd}
use Rattle.cp_embed.proofs.LaterEnds.{later-IsLaterEnd, later_pushed}
use Rattle.cp_embed.proofs.vertex_order.later_ends.Goals as goal

pub loop-edge-preserved : goal.loop-edge-preserved
loop-edge-preserved c =
    let k : ℕ = c.loop-edge.edge in
    let ends : List (ℕ × ℕ) = c.args.ends.now in
    let lt : k < length ends = omega arith in
    let one : IsLaterEnd ends c.args.order.now k c.later_of.result =
    subst (IsLaterEnd ends c.args.order.now k) (sym (c.later_of.ensures
    ∙ ap (λ us. cond (nat_lt (slice_index us (slice_index_or ends k (0, 0)).0)
    (slice_index us (slice_index_or ends k (0, 0)).1)) (slice_index_or ends k (0, 0)).1
    (slice_index_or ends k (0, 0)).0) c.as_slice.ensures.value))
    (later-IsLaterEnd ends c.args.order.now c.in_ok-places.places.items k (slice_index_or ends k (0, 0)).0
    (slice_index_or ends k (0, 0)).1 c.requires.once c.in_ok-places.ensures.places refl refl
    (c.requires.no_loop k lt) (c.requires.within k lt).0 (c.requires.within k lt).1)
    in
    record {
      each = (later_pushed (IsLaterEnd ends c.args.order.now) c.loop-edge.later.items c.push.new.self.items k c.later_of.result
          c.loop-edge.invariant.each c.loop-edge.invariant.later_of c.in_ok-push.ensures.items one).0;
      later_of = (later_pushed (IsLaterEnd ends c.args.order.now) c.loop-edge.later.items c.push.new.self.items k
          c.later_of.result c.loop-edge.invariant.each c.loop-edge.invariant.later_of c.in_ok-push.ensures.items one).1;
    }
