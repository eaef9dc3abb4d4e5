-- A place that no cycle before meets is the least of its own.
use Rattle.std.proofs.Common.{rules, ℕ, Bool, false, true, List, [], ◌∷◌, ◌++◌, ◌≡◌, ◌+◌, ◌∙◌, cond, get_or, append-nil, ap, slice_index, subst, sym, arith, Vec, Global}
use Rattle.std.specs.List.{range_with_len}
use Rattle.std.proofs.lemmas.List.{get_or_default}
use Rattle.cp_poles.specs.Cycles.{AreMarked}
use Rattle.cp_poles.specs.Kept.{AreMet}
use Rattle.cp_poles.specs.Layers.{leaders, lowest}
use Rattle.cp_poles.proofs.CycleOrders.{added-more, met-lowest, met-more, row_more, unmet-lowest}
use Rattle.cp_poles.proofs.rows.least_places.Goals as goal
use Rattle.cp_poles.proofs.rows.least_places.Goals.{then-not-index+in_ok-push, else-not-index}

pub mark_cycle-requires-clause-cycle : goal.mark_cycle-requires-clause-cycle
mark_cycle-requires-clause-cycle c = c.requires.one_length c.loop-at.at c.loop-at-test.true

pub loop-at-preserved : goal.loop-at-preserved
loop-at-preserved c =
    let to = c.args.to.now in
    let at = c.loop-at.at in
    let seen = c.loop-at.seen.items in
    let inv = c.loop-at.invariant in
    let size = c.args.size in
    let row : ℕ → List ℕ = λ n. leaders (slice_index to) size (range_with_len 0 n) in
    let more = row_more to c.requires.permutes size c.requires.one_length at in
    elim c.if-not-index.branch [
      | then-not-index+in_ok-push w ↦
          let unseen : get_or seen at false ≡ false = search rules in
          let low : lowest (slice_index to) size at at ≡ true =
          unmet-lowest to c.requires.permutes size c.requires.one_length at c.loop-at-test.true seen inv.met unseen in
          record {
            marks = subst (λ (v : Vec Bool Global). AreMarked to size v.items) (sym w.seen-is)
                w.mark_cycle.ensures.marks;
            met = subst (λ (v : Vec Bool Global). AreMet to (at + 1) v.items) (sym w.seen-is)
                (added-more to c.requires.permutes size c.requires.one_length at c.loop-at-test.true seen inv.met
                w.mark_cycle.new.seen.items w.mark_cycle.ensures.added);
            found = ap (λ (v : Vec ℕ Global). v.items) w.least-is ∙ w.in_ok-push.ensures.items
                ∙ ap (λ xs. xs ++ at ∷ []) inv.found
                ∙ sym (more ∙ ap (λ b. row at ++ cond b (at ∷ []) []) low);
          }
      | else-not-index w ↦
          let wide : get_or seen at true ≡ true = search rules in
          let was : get_or seen at false ≡ true =
          get_or_default seen at false true (omega (arith, c.loop-at-test.true, inv.met.one_each)) ∙ wide in
          let high : lowest (slice_index to) size at at ≡ false =
          met-lowest to c.requires.permutes size c.requires.one_length at c.loop-at-test.true seen inv.met was in
          record {
            marks = subst (λ (v : Vec Bool Global). AreMarked to size v.items) (sym w.seen-is) inv.marks;
            met = subst (λ (v : Vec Bool Global). AreMet to (at + 1) v.items) (sym w.seen-is)
                (met-more to c.requires.permutes size c.requires.one_length at c.loop-at-test.true seen inv.met was);
            found = ap (λ (v : Vec ℕ Global). v.items) w.least-is ∙ inv.found
                ∙ sym (more ∙ ap (λ b. row at ++ cond b (at ∷ []) []) high ∙ append-nil (row at));
          }
    ]
