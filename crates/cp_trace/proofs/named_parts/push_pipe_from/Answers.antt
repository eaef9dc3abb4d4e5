use Rattle.std.proofs.Common.{◌++◌, sym, ap, ◌∙◌}
use Rattle.std.proofs.lemmas.List.{append-nil}
use Rattle.cp_trace.proofs.PipesByEnds.{pipe_live, pipe_from, pipe_not_from}
use Rattle.cp_trace.proofs.named_parts.push_pipe_from.Goals as goal

pub pipe_ends-requires : goal.pipe_ends-requires
pipe_ends-requires c = pipe_live c.args.i.now c.args.v c.in-Some.p c.in-Some.ensures

pub returns-in_ok-push : goal.returns-in_ok-push
returns-in_ok-push c =
    c.in_ok-push.ensures.items
    ∙ ap (λ t. c.args.names.now.items ++ t)
    (pipe_from c.args.i.now c.pipe_ends.ensures.rules c.args.v c.in-Some.p c.in-Some.ensures
    (ap (λ x. x.0) (sym c.pipe_ends.ensures.value) ∙ c.if-pipe_ends-v.true))

pub returns-else-pipe_ends-v : goal.returns-else-pipe_ends-v
returns-else-pipe_ends-v c =
    sym (append-nil c.args.names.now.items)
    ∙ ap (λ t. c.args.names.now.items ++ t)
    (pipe_not_from c.args.i.now c.pipe_ends.ensures.rules c.args.v c.in-Some.p c.in-Some.ensures
    (λ e. c.if-pipe_ends-v.false (ap (λ x. x.0) c.pipe_ends.ensures.value ∙ e)))
