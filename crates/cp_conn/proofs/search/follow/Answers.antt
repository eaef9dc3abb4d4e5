use Rattle.std.proofs.Common.{◌≤◌, length, arith}
use Rattle.cp_conn.proofs.Searching.{follow_step}
use Rattle.cp_conn.proofs.search.follow.Goals as goal

pub returns-in_ok-push-clause-goes_on : goal.returns-in_ok-push-clause-goes_on
returns-in_ok-push-clause-goes_on c =
    let new : length c.args.least.now.items ≤ c.index.result.now = omega arith in
    follow_step c.args.ends.now (length c.args.least.now.items) c.args.least.now.items c.args.queue.now.items
    c.args.dart c.start_of-from.result c.finish_of-to.result c.index.result.now c.index-then-index-len.result.now
    c.push.new.self.items
    c.requires.ends_within c.requires.met c.requires.dart_within c.requires.begun c.start_of-from.ensures
    c.finish_of-to.ensures c.index.ensures new c.index-then-index-len.ensures c.in_ok-push.ensures.items
