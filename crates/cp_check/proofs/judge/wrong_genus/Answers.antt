use Rattle.std.proofs.Common.{ap}
use Rattle.cp_border.specs.Borders.{borders}
use Rattle.cp_border.specs.Views.{Drawn}
use Rattle.cp_check.proofs.Counts.{layout_told}
use Rattle.cp_check.proofs.judge.wrong_genus.Goals as goal

pub returns-clause-reason : goal.returns-clause-reason
returns-clause-reason c =
    layout_told c.args.g.now c.args.lay.now (borders c.new-view.result.graph c.new-view.result.layout)
    (ap (λ (t : Drawn). borders t.graph t.layout) c.new-view.ensures) c.requires.arranged c.genus_reason.result
    c.genus_reason.ensures
