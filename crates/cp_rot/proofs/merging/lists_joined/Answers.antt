use Rattle.std.proofs.Common.{arith, List, ℕ, ◌≡◌, ◌<◌, ◌-◌, ◌∙◌, [], length}
use Rattle.std.proofs.lemmas.List.{get_or_default}
use Rattle.cp_orbits.proofs.OrbitLaws.{exchange-below}
use Rattle.cp_rot.specs.RewriteTables.{joined_list}
use Rattle.cp_rot.proofs.RewriteCode.{joined_list_first, joined_list_other}
use Rattle.cp_rot.proofs.ListEdits.{values_more}
use Rattle.cp_rot.proofs.merging.lists_joined.Goals as goal
use Rattle.cp_rot.proofs.merging.lists_joined.Goals.{then-old-u+in_ok-list, else-old-u+in_ok-list-2}

pub loop-v-preserved : goal.loop-v-preserved
loop-v-preserved c =
    let lists = c.args.lists.now in
    let last = length lists - 1 in
    let within : c.exchanged-old.result < length lists = omega (arith, c.exchanged-old.ensures, exchange-below (length lists) c.args.w last c.loop-v.v (omega arith) (omega arith) (omega arith)) in
    let here : c.if-old-u.list ≡ joined_list c.args.lists.now c.args.u c.args.w (length c.args.lists.now - 1) c.args.d c.args.f c.loop-v.v = elim c.if-old-u.branch [
      | then-old-u+in_ok-list w ↦ w.list-is ∙ joined_list_first lists c.args.u c.args.w last c.args.d c.args.f c.loop-v.v c.exchanged-old.result c.exchanged-old.ensures w.if-old-u.true (w.items.ensures ∙ w.index-lists-u.is ∙ get_or_default {X = List ℕ} lists c.args.u w.index-lists-u.result [] c.requires.u) (w.items-then-old-u.ensures ∙ w.index-lists-w.is ∙ get_or_default {X = List ℕ} lists c.args.w w.index-lists-w.result [] c.requires.w) w.in_ok-list.ensures
      | else-old-u+in_ok-list-2 w ↦ w.list-is ∙ joined_list_other lists c.args.u c.args.w last c.args.d c.args.f c.loop-v.v c.exchanged-old.result c.exchanged-old.ensures w.if-old-u.false (w.items-else-old-u.ensures ∙ w.index-lists-old.is ∙ get_or_default {X = List ℕ} lists c.exchanged-old.result w.index-lists-old.result [] within) w.in_ok-list-2.ensures
    ] in
    values_more c.loop-v.v (joined_list c.args.lists.now c.args.u c.args.w (length c.args.lists.now - 1) c.args.d c.args.f) c.loop-v.invariant here c.in_ok-push.ensures.items
