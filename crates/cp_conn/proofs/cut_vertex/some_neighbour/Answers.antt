use Rattle.std.proofs.Common.{◌≡◌, get_or, length, refl, arith}
use Rattle.cp_conn.proofs.Neighbours.{AllNear-more, AllNear-end}
use Rattle.cp_conn.proofs.cut_vertex.some_neighbour.Goals as goal
use Rattle.cp_conn.proofs.cut_vertex.some_neighbour.Goals.{else-first-v-via-then-first-v+else-second-v, else-first-v-via-else-first-v, else-second-v-2-via-then-second-v-2+else-first-v-2, else-second-v-2-via-else-second-v-2}

pub loop-first-preserved : goal.loop-first-preserved
loop-first-preserved c =
    AllNear-more c.args.ends.now c.args.v (λ x. ⊥) c.loop-first.first-index
    (get_or c.args.ends.now c.loop-first.first-index (0, 0)).0
    (get_or c.args.ends.now c.loop-first.first-index (0, 0)).1 refl
    (λ e ne. elim c.else-first-v.branch
    [ else-first-v-via-then-first-v+else-second-v w ↦ omega arith | else-first-v-via-else-first-v w ↦ omega arith ])
    (λ e ne. elim c.else-second-v-2.branch [
      | else-second-v-2-via-then-second-v-2+else-first-v-2 w ↦ omega arith
      | else-second-v-2-via-else-second-v-2 w ↦
          omega arith
    ])
    c.loop-first.invariant

pub returns : goal.returns
returns c x near = let all : length c.args.ends.now ≡ c.loop-first.first-index = omega arith in
    AllNear-end c.args.ends.now c.args.v (λ y. ⊥) c.loop-first.first-index x all c.loop-first.invariant near
