use Rattle.std.proofs.Common.{◌≡◌, ℕ, cond, length, arith, Some, not, ap, ◌∙◌}
use mir.Val.{to_z, of_z}
use mir.Syntax.{w32}
use Rattle.std.specs.Ordering.{int_eq}
use Rattle.indexmap.specs.IndexMap.{get}
use Rattle.std.proofs.lemmas.Grind.{common_steps}
use Rattle.cp_cgraph.proofs.Places.{table_kept, table_more, none_copied, some_copied}
use Rattle.cp_cgraph.proofs.ids.Ids.with.Goals as goal
use Rattle.cp_cgraph.proofs.ids.Ids.with.Goals.{then-is_none+in_ok-insert, else-is_none}

pub invariant_of-result : goal.invariant_of-result
invariant_of-result c n =
    let id = to_z w32 (of_z w32 c.args.id) in
    let ids = c.self.inside.ids.items in
    let old = get int_eq c.self.inside.places in
    elim c.if-is_none.branch [
      | then-is_none+in_ok-insert w ↦
          rw (w.places-is, c.in_ok-push.ensures.items)
          (table_more old (get int_eq w.insert.new.self) ids id c.self.invariant
          (none_copied c.get.result (old id) c.get.ensures.value (c.is_none.ensures ∙ ap not w.if-is_none.true))
          (λ q. let len : w.len.result ≡ length ids = grind (arith, common_steps) in w.in_ok-insert.ensures.updates.0 q
          ∙ ap (λ (k : ℕ). cond (int_eq id q) (Some k) (old q)) len) n)
      | else-is_none w ↦
          rw (w.places-is, c.in_ok-push.ensures.items)
          (table_kept old old ids id c.self.invariant
          (some_copied c.get.result (old id) c.get.ensures.value (c.is_none.ensures ∙ ap not w.if-is_none.false)) n)
    ]
