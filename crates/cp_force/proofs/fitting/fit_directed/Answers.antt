use Rattle.std.proofs.Common.{ap, ◌∙◌}
use Rattle.cp_force.specs.Fits.{words_of, ties_of, first_key, is_turned}
use Rattle.cp_force.proofs.FittedNodes.{fitted_row}
use Rattle.cp_force.proofs.fitting.fit_directed.Goals as goal

pub returns : goal.returns
returns c = λ place kids z two.
    fitted_row place kids c.args.row.items c.comes_turned-turned.result c.in_ok-fitted.fitted z two
    (c.comes_turned-turned.ensures ∙ ap is_turned c.as_slice-2.ensures.value)
    (c.in_ok-fitted.ensures.key ∙ c.key_of-key.ensures ∙ ap first_key c.as_slice.ensures.value)
    (c.in_ok-fitted.ensures.word ∙ ap words_of c.directed-directed.ensures)
    (c.in_ok-fitted.ensures.ties ∙ ap ties_of c.directed-directed.ensures)
