-- The kids of the P-node are leaves or not.
use Rattle.std.proofs.Common.{◌≡◌, map, true, sym, ap, ◌∙◌}
use Rattle.std.specs.List.{list_all}
use Rattle.std.proofs.lemmas.Bool.{false≢true}
use Rattle.cp_pq.specs.declared.node.Node.TheVariants.{Leaf, P}
use Rattle.cp_force.specs.Owners.{is_leaf}
use Rattle.cp_force.proofs.Owners.{leaves_of, are_leaves}
use Rattle.cp_pq.proofs.NodeLayers.{P_P}
use Rattle.cp_force.proofs.ownership.owner_of.Goals as goal

pub returns-then-are_leaves : goal.returns-then-are_leaves
returns-then-are_leaves c =
    let xs = leaves_of c.in-P.kids (ap (list_all is_leaf) (sym c.items.ensures) ∙ sym c.are_leaves.ensures
    ∙ c.if-are_leaves.true) in
    (xs.0, sym c.body.ensures.value ∙ c.in-P.is ∙ ap (P c.in-P.owner) xs.1)

pub returns-else-are_leaves : goal.returns-else-are_leaves
returns-else-are_leaves c owner sole =
    let same = P_P c.in-P.owner owner c.in-P.kids (map Leaf sole.0) (sym c.in-P.is ∙ c.body.ensures.value
    ∙ sole.1) in
    let passed : list_all is_leaf c.in-P.kids ≡ true = ap (list_all is_leaf) same.1 ∙ are_leaves sole.0 in
    false≢true (sym c.if-are_leaves.false ∙ c.are_leaves.ensures ∙ ap (list_all is_leaf) c.items.ensures ∙ passed)
