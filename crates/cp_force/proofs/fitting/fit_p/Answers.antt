use Rattle.std.proofs.Common.{rules, ap, ◌∙◌}
use Rattle.std.specs.List.Sorted.{IsNonDecreasingBy}
use Rattle.std.proofs.lemmas.List.Sorted.{IsNonDecreasingBy-from_sort_by_key}
use Rattle.cp_force.specs.declared.fitting.Fitted.{Fitted}
use Rattle.cp_force.specs.Fits.{first_key}
use Rattle.cp_force.proofs.FittedNodes.{fitted_P}
use Rattle.cp_force.proofs.fitting.fit_p.Goals as goal

pub returns : goal.returns
returns c = λ place owner kids z two.
    let sorted : IsNonDecreasingBy (λ (f : Fitted). f.key) c.sort_unstable_by_key.new.self.items =
    IsNonDecreasingBy-from_sort_by_key (λ (f : Fitted). f.key) _ c.sort_unstable_by_key.ensures.sorted
    (λ a r q k. search rules) in
    fitted_P place owner kids c.args.row.items c.sort_unstable_by_key.new.self.items c.in_ok-fitted.fitted z two
    c.sort_unstable_by_key.ensures.permutation sorted
    (c.in_ok-fitted.ensures.key ∙ c.key_of-key.ensures ∙ ap first_key c.as_slice.ensures.value)
    c.in_ok-fitted.ensures.word c.in_ok-fitted.ensures.ties
