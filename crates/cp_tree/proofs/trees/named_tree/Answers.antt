-- The pole is the number of a vertex, and the shape gets the names of the edges.
use Rattle.std.proofs.Common.{slice_index, ap, ◌∙◌, subst}
use Rattle.cp_pq.specs.Trees.{IsWellFormed}
use Rattle.cp_force.specs.Shapes.{shape_of_tree}
use Rattle.cp_tree.specs.Naming.{renamed_shape}
use Rattle.cp_tree.proofs.trees.named_tree.Goals as goal

pub item_at-requires : goal.item_at-requires
item_at-requires g c = c.requires.poles c.in-Some.pole c.in-Some.ensures.bond

pub returns-in-Some : goal.returns-in-Some
returns-in-Some g c = record {
  pole = c.in-Some.pole;
  within = c.requires.poles c.in-Some.pole c.in-Some.ensures.bond;
  named = c.item_at.ensures;
  bond = c.in-Some.ensures.bond;
  unlisted = c.in-Some.ensures.unlisted;
  every_order = c.in-Some.ensures.every_order;
}

pub returns-in_ok-named-in-None : goal.returns-in_ok-named-in-None
returns-in_ok-named-in-None g c = record {
  shape = c.in_ok-named-in-None.ensures
      ∙ ap (renamed_shape (slice_index c.args.edges.now)) (c.in_ok-shape-in-None.ensures
      ∙ ap shape_of_tree c.tree-tree.ensures.value);
  formed = subst IsWellFormed c.tree-tree.ensures.value c.vars-vars.ensures.well_formed;
  no_star = c.in-None.ensures.owner;
  not_every = c.in-None.ensures.every_order;
}
