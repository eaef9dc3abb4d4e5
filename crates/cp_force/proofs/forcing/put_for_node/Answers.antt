use Rattle.std.proofs.Common.{◌≡◌, ℕ, Bool, [], ◌∷◌, sym, ap, ◌∙◌, subst}
use Rattle.cp_pq.specs.declared.node.Node.{Node}
use Rattle.cp_pq.specs.Frames.{fill}
use Rattle.cp_pq.specs.Readings.{Reads}
use Rattle.cp_pq.specs.Promises.{IsForced}
use Rattle.cp_force.specs.Fits.{IsTiedReading}
use Rattle.cp_force.specs.Forced.{forced_node}
use Rattle.cp_force.proofs.Variants.{match_Some, match_None}
use Rattle.cp_force.proofs.OpenedTrees.{first_kid, kid_branches, node_forced, node_never}
use Rattle.cp_force.proofs.forcing.put_for_node.Goals as goal
use Rattle.cp_pq.proofs.FilledRows.{fill_one}

pub fit-requires-clause-branching : goal.fit-requires-clause-branching
fit-requires-clause-branching c =
    let k = c.index-items-0.result in let o = c.requires.1 in
    kid_branches c.args.order.now c.args.var c.requires.0 c.args.hole c.args.kids o k
    (first_kid c.args.order.now c.args.var c.requires.0 c.args.hole c.args.kids o c.items.result.now k c.items.ensures
    c.index-items-0.is)

pub closed-requires : goal.closed-requires
closed-requires c =
    let k = c.index-items-0.result in let o = c.requires.1 in
    let order = c.args.order.now in let hole = c.args.hole in
    let one = first_kid order c.args.var c.requires.0 hole c.args.kids o c.items.result.now k c.items.ensures
    c.index-items-0.is in
    let ties = match_Some ((may : ℕ → Bool → Bool) → Reads may k order → ⊥) (IsTiedReading k order) c.in_ok-found.found
    c.in-Some.ties c.in-Some.is c.in_ok-found.ensures in
    let row : c.in_ok-row-in-Some.row ≡ forced_node c.args.var order ∷ [] =
    c.in_ok-row-in-Some.ensures ∙ ap (λ (z : Node). z ∷ []) c.in_ok-node-in-Some.ensures in
    let m = fill_one hole.frames (forced_node c.args.var order) in (
      m.0,
      sym m.1 ∙ ap (fill hole.frames) (sym row),
      (node_forced order c.args.var c.requires.0 hole c.args.kids o k one c.in-Some.ties ties m.0 (sym m.1)).0,
    )

pub returns-in-None-clause-refused : goal.returns-in-None-clause-refused
returns-in-None-clause-refused c = λ e tree o.
    let k = c.index-items-0.result in
    let order = c.args.order.now in let hole = c.args.hole in
    let one = first_kid order c.args.var tree hole c.args.kids o c.items.result.now k c.items.ensures
    c.index-items-0.is in
    node_never order c.args.var tree hole c.args.kids o k one
    (match_None ((may : ℕ → Bool → Bool) → Reads may k order → ⊥) (IsTiedReading k order) c.in_ok-found.found
    c.in-None.is c.in_ok-found.ensures)

pub returns-in_ok-tree-in-Some-clause-forced : goal.returns-in_ok-tree-in-Some-clause-forced
returns-in_ok-tree-in-Some-clause-forced c = λ tree o.
    let k = c.index-items-0.result in
    let order = c.args.order.now in let hole = c.args.hole in
    let one = first_kid order c.args.var tree hole c.args.kids o c.items.result.now k c.items.ensures
    c.index-items-0.is in
    let ties = match_Some ((may : ℕ → Bool → Bool) → Reads may k order → ⊥) (IsTiedReading k order) c.in_ok-found.found
    c.in-Some.ties c.in-Some.is c.in_ok-found.ensures in
    let row : c.in_ok-row-in-Some.row ≡ forced_node c.args.var order ∷ [] =
    c.in_ok-row-in-Some.ensures ∙ ap (λ (z : Node). z ∷ []) c.in_ok-node-in-Some.ensures in
    let m = fill_one hole.frames (forced_node c.args.var order) in
    subst (IsForced order c.args.var tree)
    (sym (c.in_ok-tree-in-Some.ensures m.0 (sym m.1 ∙ ap (fill hole.frames) (sym row))))
    (node_forced order c.args.var tree hole c.args.kids o k one c.in-Some.ties ties m.0 (sym m.1)).1
