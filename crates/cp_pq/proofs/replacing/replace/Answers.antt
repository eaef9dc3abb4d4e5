use Rattle.std.proofs.Common.{sym, ap, ◌∙◌}
use Rattle.cp_pq.specs.Frames.{fill}
use Rattle.cp_pq.proofs.FilledRows.{fill_one}
use Rattle.cp_pq.proofs.Replacements.{hole_formed, replaced_tree, tree_formed}
use Rattle.cp_pq.proofs.replacing.replace.Goals as goal

pub filled-requires : goal.filled-requires
filled-requires c =
    let hole = c.in_ok-hole.hole in let g = fill_one hole.frames c.args.new in (
      g.0,
      sym g.1 ∙ ap (fill hole.frames) (sym c.in_ok-row.ensures),
      hole_formed c.args.set.now c.args.tree c.in_ok-hole.ensures.well_formed c.requires.leaf_set hole c.in_ok-hole.part
          c.in_ok-hole.ensures.taken c.args.new c.requires.fresh g.0 (sym g.1),
    )

pub returns-clause-replaced : goal.returns-clause-replaced
returns-clause-replaced c =
    let hole = c.in_ok-hole.hole in
    replaced_tree c.args.set.now c.args.tree c.in_ok-hole.ensures.well_formed c.requires.leaf_set hole c.in_ok-hole.part
    c.in_ok-hole.ensures.taken c.args.new c.requires.fresh c.in_ok-put.put
    (c.in_ok-put.ensures.body ∙ ap (fill hole.frames) c.in_ok-row.ensures) c.in_ok-put.ensures.root
    c.in_ok-put.ensures.vars c.in_ok-put.ensures.equations

pub returns-clause-well_formed : goal.returns-clause-well_formed
returns-clause-well_formed c =
    let hole = c.in_ok-hole.hole in
    tree_formed c.args.set.now c.args.tree c.in_ok-hole.ensures.well_formed c.requires.leaf_set hole c.in_ok-hole.part
    c.in_ok-hole.ensures.taken c.args.new c.requires.fresh c.in_ok-put.put
    (c.in_ok-put.ensures.body ∙ ap (fill hole.frames) c.in_ok-row.ensures) c.in_ok-put.ensures.root
    c.in_ok-put.ensures.vars c.in_ok-put.ensures.equations
