-- What is planted at both ends, with the new cells and names of pipes, makes the rewrite of the step.
use Rattle.std.proofs.Common.{◌≡◌, ℕ, ◌-◌, length, sym, ap, ◌∙◌, subst, arith}
use Rattle.cp_board.specs.declared.steps.Step.TheVariants.{Propagate}
use Rattle.cp_board.specs.Instances.{cells, pipe_names}
use Rattle.cp_board.specs.Plantings.{fixed_nodes, free_nodes}
use Rattle.cp_board.specs.Reductions.{Performs}
use Rattle.cp_board.proofs.NumberOfNewNames.{length-new_names}
use Rattle.cp_plant.specs.Rewriting.{PlantedEnd}
use Rattle.cp_plant.proofs.ToldPlantings.{asked_new, kinds_number, told_performs}
use Rattle.cp_plant.proofs.propagates.propagate.Goals as goal

pub returns : goal.returns
returns g c =
    let i = g.B.Board.instance c.args.board.now in
    let kept = ap (λ (e : PlantedEnd). e.rows) c.u.view_is in
    let rows : c.as_slice-rows.result.now ≡ c.in_ok-u.u.rows = c.as_slice-rows.ensures.value ∙ kept in
    let nodes : ℕ = length c.as_slice-rows.result.now in
    let number : nodes ≡ length c.in_ok-u.u.rows = ap length rows in
    let fixed : c.fixed_count-fixed.result ≡ length (fixed_nodes c.in_ok-u.u.rows) =
    c.fixed_count-fixed.ensures.value ∙ ap (λ rs. length (fixed_nodes rs)) rows in
    let tints = c.as_slice.ensures.value ∙ c.in_ok-cells.ensures in
    let names = c.as_slice-2.ensures.value ∙ c.in_ok-names.ensures in
    let free : nodes - c.fixed_count-fixed.result ≡ length (free_nodes c.in_ok-u.u.rows) =
    omega (arith, number, fixed, kinds_number c.in_ok-u.u.rows) in
    subst (Performs i (Propagate c.args.pipe c.args.end c.args.shape.now)) (sym c.in_ok-rewrite.ensures)
    (told_performs i c.in_ok-verts.ensures.rules c.args.pipe c.requires.0 c.requires.1 c.args.end c.args.shape.now
    c.requires.2 c.in_ok-u.u c.in_ok-u.w (c.in_ok-u.ensures c.requires.0 c.requires.1)
    c.as_slice.result.now c.as_slice-2.result.now
    (ap length tints ∙ length-new_names (cells i) c.fixed_count-fixed.result ∙ fixed)
    (asked_new (cells i) c.as_slice.result.now c.fixed_count-fixed.result tints)
    (ap length names ∙ length-new_names (pipe_names i) (nodes - c.fixed_count-fixed.result) ∙ free)
    (asked_new (pipe_names i) c.as_slice-2.result.now (nodes - c.fixed_count-fixed.result) names)
    (omega (arith, ap length c.in_ok-verts.ensures.names, c.in_ok-verts.verts.small))
    (omega (arith, ap length c.in_ok-edges.ensures.names, c.in_ok-edges.edges.small)))
