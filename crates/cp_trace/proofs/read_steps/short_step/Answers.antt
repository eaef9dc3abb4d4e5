use Rattle.std.proofs.Common.{inl, inr, ◌∙◌}
use Rattle.cp_trace.proofs.StepLines.{no_three}
use Rattle.cp_trace.proofs.read_steps.short_step.Goals as goal

pub returns-in_err-pipe-in-Free : goal.returns-in_err-pipe-in-Free
returns-in_err-pipe-in-Free c = rw c.from_residual-in_err-pipe-in-Free.ensures (λ s told same other h.
    no_three s c.args.words.now (inl (same ∙ c.in-Free.is)) told h c.in_err-pipe-in-Free.ensures)

pub returns-in_err-pipe-in-Fuse : goal.returns-in_err-pipe-in-Fuse
returns-in_err-pipe-in-Fuse c = rw c.from_residual-in_err-pipe-in-Fuse.ensures (λ s told same other h.
    no_three s c.args.words.now (inr (same ∙ c.in-Fuse.is)) told h c.in_err-pipe-in-Fuse.ensures)
