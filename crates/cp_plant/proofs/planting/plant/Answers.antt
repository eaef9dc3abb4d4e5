-- The rows that are grown from none are those of the shape.
use Rattle.std.proofs.Common.{◌≡◌, ◌∙◌, ◌++◌, ◌∷◌, ℕ, [], ap, subst₂}
use Rattle.cp_plant.specs.Growing.{IsGrown, partner_in}
use Rattle.cp_plant.proofs.PlantedNumbers.{grown-Plants}
use Rattle.cp_plant.proofs.planting.plant.Goals as goal

pub returns : goal.returns
returns c =
    let f : ℕ → ℕ = partner_in c.args.partners.now in
    let body = c.args.shape.now.body in
    let made = c.plant_branch.new.rows.items in
    let above = c.in_ok-plant_branch.field-0 in
    let tops : c.as_slice.result.now ≡ c.args.top ∷ c.args.edges.now =
    c.as_slice.ensures.value ∙ c.in_ok-extend_from_slice.ensures.items
    ∙ ap (λ xs. xs ++ c.args.edges.now) (c.in_ok-push.ensures.items ∙ ap (λ xs. xs ++ c.args.top ∷ []) c.new-tops.ensures.items) in
    grown-Plants f c.args.verts.now c.args.edges.now body c.args.top above made
    (subst₂ (λ es before. IsGrown f c.args.verts.now es body above before made) tops c.new-rows.ensures.items
    c.in_ok-plant_branch.ensures)
    c.requires.verts c.requires.edges
