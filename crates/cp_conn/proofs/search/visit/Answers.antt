use Rattle.std.proofs.Common.{◌≡◌, ◌≤◌, ℕ, set, length, subst, sym, arith}
use Rattle.std.proofs.lemmas.List.{length-set}
use Rattle.cp_conn.specs.Search.{AreMet, AreDone}
use Rattle.cp_conn.proofs.Searching.{visit_step, AreDone-stays}
use Rattle.cp_conn.proofs.search.visit.Goals as goal

pub run_queue-requires-clause-met : goal.run_queue-requires-clause-met
run_queue-requires-clause-met c =
    let new : length c.args.least.now.items ≤ c.index.result.now = omega arith in
    let first = visit_step c.args.ends.now
    (length c.args.least.now.items) c.args.least.now.items c.args.queue.now.items c.args.vertex c.index.result.now
    c.push.new.self.items
    c.requires.ends_within c.requires.met c.requires.all_done c.requires.lower_met c.requires.vertex_within
    c.index.ensures new c.in_ok-push.ensures.items in
    subst (λ (n : ℕ). AreMet c.args.ends.now n
    (set c.args.least.now.items c.args.vertex c.args.vertex) c.push.new.self.items)
    (sym (length-set c.args.least.now.items c.args.vertex c.args.vertex)) first.met

pub run_queue-requires-clause-some_done : goal.run_queue-requires-clause-some_done
run_queue-requires-clause-some_done c =
    let new : length c.args.least.now.items ≤ c.index.result.now = omega arith in
    let all : length c.args.queue.now.items ≤ length c.args.queue.now.items = omega arith in
    let first = visit_step c.args.ends.now
    (length c.args.least.now.items) c.args.least.now.items c.args.queue.now.items c.args.vertex c.index.result.now
    c.push.new.self.items
    c.requires.ends_within c.requires.met c.requires.all_done c.requires.lower_met c.requires.vertex_within
    c.index.ensures new c.in_ok-push.ensures.items in
    let stays = AreDone-stays c.args.ends.now
    (length c.args.least.now.items) c.args.least.now.items c.args.queue.now.items
    (set c.args.least.now.items c.args.vertex c.args.vertex) c.push.new.self.items
    (length c.args.queue.now.items) c.requires.ends_within first all c.requires.all_done in
    let count : c.len-done.result ≡ length c.args.queue.now.items = omega arith in
    subst (λ (k : ℕ). AreDone c.args.ends.now (length (set c.args.least.now.items c.args.vertex c.args.vertex))
    (set c.args.least.now.items c.args.vertex c.args.vertex) c.push.new.self.items k) (sym count)
    (subst (λ (n : ℕ). AreDone c.args.ends.now n
    (set c.args.least.now.items c.args.vertex c.args.vertex) c.push.new.self.items (length c.args.queue.now.items))
    (sym (length-set c.args.least.now.items c.args.vertex c.args.vertex)) stays)

pub returns-in_ok-run_queue-clause-all_done : goal.returns-in_ok-run_queue-clause-all_done
returns-in_ok-run_queue-clause-all_done c =
    subst (λ (n : ℕ). AreDone c.args.ends.now n c.run_queue.new.least.items c.run_queue.new.queue.items
    (length c.run_queue.new.queue.items))
    (length-set c.args.least.now.items c.args.vertex c.args.vertex) c.in_ok-run_queue.ensures.all_done
