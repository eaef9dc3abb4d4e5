-- The rows of a shape that is planted with no names are counted.
use Rattle.std.proofs.Common.{◌∙◌, [], length, sym, ap, subst}
use Rattle.cp_plant.specs.Growing.{IsGrown, partner_in}
use Rattle.cp_plant.proofs.PlantedNumbers.{grown-number, grown-Leaf}
use Rattle.cp_plant.proofs.planting.count_nodes.Goals as goal

pub returns-clause-value : goal.returns-clause-value
returns-clause-value c =
    ap length c.as_slice.ensures.value
    ∙ grown-number (partner_in []) [] [] c.args.shape.now.body c.in_ok-plant_branch.field-0 c.plant_branch.new.rows.items
    (subst (λ before. IsGrown (partner_in []) [] [] c.args.shape.now.body c.in_ok-plant_branch.field-0 before
    c.plant_branch.new.rows.items) c.new-rows.ensures.items c.in_ok-plant_branch.ensures)

pub returns-clause-leaf : goal.returns-clause-leaf
returns-clause-leaf c none =
    grown-Leaf (partner_in []) [] [] c.args.shape.now.body c.in_ok-plant_branch.field-0 c.plant_branch.new.rows.items
    (subst (λ before. IsGrown (partner_in []) [] [] c.args.shape.now.body c.in_ok-plant_branch.field-0 before
    c.plant_branch.new.rows.items) c.new-rows.ensures.items c.in_ok-plant_branch.ensures)
    (ap length (sym c.as_slice.ensures.value) ∙ none)
