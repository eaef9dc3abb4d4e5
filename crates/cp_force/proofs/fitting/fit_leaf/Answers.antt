use Rattle.std.proofs.Common.{[], ◌∷◌, ◌++◌, ap, ◌∙◌}
use Rattle.cp_force.specs.Fits.{place_in}
use Rattle.cp_force.proofs.FittedNodes.{fitted_Leaf}
use Rattle.cp_force.proofs.fitting.fit_leaf.Goals as goal

pub returns : goal.returns
returns c = fitted_Leaf (place_in c.args.places.now) c.args.leaf _ c.place-key.ensures
    (c.in_ok-push_back.ensures.items ∙ ap (λ z. z ++ c.args.leaf ∷ []) c.new-word.ensures) c.new.ensures
