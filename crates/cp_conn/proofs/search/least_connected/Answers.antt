use Rattle.std.proofs.Common.{◌<◌, ℕ, get_or, length, subst, sym, ◌∙◌}
use Rattle.cp_conn.specs.Search.{AreMet, AreDone}
use Rattle.cp_conn.proofs.search.least_connected.Goals as goal

pub visit-requires-clause-all_done : goal.visit-requires-clause-all_done
visit-requires-clause-all_done c =
    subst (λ (n : ℕ). AreDone c.args.ends.now n c.loop-vertex.least.items c.loop-vertex.queue.items
    (length c.loop-vertex.queue.items)) (sym c.loop-vertex.invariant.size) c.loop-vertex.invariant.all_done

pub loop-vertex-preserved : goal.loop-vertex-preserved
loop-vertex-preserved c = record {
  size = c.in_ok-visit.ensures.size ∙ c.loop-vertex.invariant.size;
  met = subst (λ (n : ℕ). AreMet c.args.ends.now n c.visit.new.least.items c.visit.new.queue.items)
      c.loop-vertex.invariant.size c.in_ok-visit.ensures.met;
  all_done = subst (λ (n : ℕ). AreDone c.args.ends.now n c.visit.new.least.items c.visit.new.queue.items
      (length c.visit.new.queue.items)) c.loop-vertex.invariant.size c.in_ok-visit.ensures.all_done;
  lower_met = λ x lt. subst (λ (n : ℕ). get_or c.visit.new.least.items x 0 < n) c.loop-vertex.invariant.size
      (c.in_ok-visit.ensures.more_met x lt);
}
