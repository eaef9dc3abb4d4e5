use Rattle.std.proofs.Common.{subst}
use Rattle.std.specs.List.Sorted.{IsPermutation}
use Rattle.cp_trace.proofs.PipesByEnds.{pipes_sorted}
use Rattle.cp_trace.proofs.named_parts.pipe_names_of.Goals as goal

pub returns-clause-names : goal.returns-clause-names
returns-clause-names c =
    pipes_sorted c.args.i.now c.names_by_ends.ensures.rules c.sort.new.self.items
    (subst (λ xs. IsPermutation xs c.sort.new.self.items) c.in_ok-names.ensures.names c.in_ok-sort.ensures.permutation)
    c.in_ok-sort.ensures.sorted
