-- The end gets the order that the other end asks for, and the lists are then a solution of the instance before.
use Rattle.std.proofs.Common.{ℕ, List, ◌∙◌, subst, sym}
use Rattle.cp_board.specs.Instances.{graph}
use Rattle.cp_board.specs.Rotations.{ArrangesEdges}
use Rattle.cp_board.specs.Solutions.{list_in}
use Rattle.cp_poles.specs.Permuted.{IsReordered}
use Rattle.cp_poles.proofs.FreePoles.{other_named, wanted-told}
use Rattle.cp_poles.proofs.FusedSolutions.{IsSolution-before_fuse, fuse-IsTurnable, fuse-other}
use Rattle.cp_poles.proofs.SmallRewrites.{live_pipe}
use Rattle.cp_poles.proofs.fused_poles.fuse_poles_back.Goals as goal

pub wanted_order-requires-clause-live : goal.wanted_order-requires-clause-live
wanted_order-requires-clause-live g c =
    live_pipe (g.B.Board.instance c.args.before.now) c.args.pipe c.requires.allowed.0 c.requires.allowed.1

pub wanted_order-requires-clause-listed : goal.wanted_order-requires-clause-listed
wanted_order-requires-clause-listed g c =
    let i = g.B.Board.instance c.args.before.now in
    let p = c.requires.solved.1.0 in
    let t = fuse-IsTurnable i c.requires.solved.0 c.args.pipe c.args.end c.args.pole c.args.after
    c.follows_rules.ensures c.requires.allowed c.requires.solved.1 c.requires.solved.2 in
    other_named i c.args.pipe p c.requires.solved.1.1 c.args.end c.args.after t.names
    (fuse-other i c.requires.solved.0 c.args.pipe c.args.end c.args.pole c.follows_rules.ensures c.requires.allowed
    c.requires.solved.1)

pub reordered-requires-clause-live_u : goal.reordered-requires-clause-live_u
reordered-requires-clause-live_u g c =
    (fuse-IsTurnable (g.B.Board.instance c.args.before.now) c.requires.solved.0 c.args.pipe c.args.end c.args.pole
    c.args.after c.follows_rules.ensures c.requires.allowed c.requires.solved.1 c.requires.solved.2).live_end

pub reordered-requires-clause-live_v : goal.reordered-requires-clause-live_v
reordered-requires-clause-live_v g c =
    (fuse-IsTurnable (g.B.Board.instance c.args.before.now) c.requires.solved.0 c.args.pipe c.args.end c.args.pole
    c.args.after c.follows_rules.ensures c.requires.allowed c.requires.solved.1 c.requires.solved.2).live_pole

pub reordered-requires-clause-bond : goal.reordered-requires-clause-bond
reordered-requires-clause-bond g c = c.requires.allowed.2.1.bond

pub reordered-requires-clause-names : goal.reordered-requires-clause-names
reordered-requires-clause-names g c =
    (fuse-IsTurnable (g.B.Board.instance c.args.before.now) c.requires.solved.0 c.args.pipe c.args.end c.args.pole
    c.args.after c.follows_rules.ensures c.requires.allowed c.requires.solved.1 c.requires.solved.2).names

pub reordered-requires-clause-rotation : goal.reordered-requires-clause-rotation
reordered-requires-clause-rotation g c =
    (fuse-IsTurnable (g.B.Board.instance c.args.before.now) c.requires.solved.0 c.args.pipe c.args.end c.args.pole
    c.args.after c.follows_rules.ensures c.requires.allowed c.requires.solved.1 c.requires.solved.2).rotation

pub reordered-requires-clause-arranged : goal.reordered-requires-clause-arranged
reordered-requires-clause-arranged g c =
    let i = g.B.Board.instance c.args.before.now in
    let t = fuse-IsTurnable i c.requires.solved.0 c.args.pipe c.args.end c.args.pole c.args.after
    c.follows_rules.ensures c.requires.allowed c.requires.solved.1 c.requires.solved.2 in
    subst (ArrangesEdges (graph i) c.args.end)
    (sym (c.in_ok-order.ensures
    ∙ wanted-told i c.args.pipe c.requires.solved.1.0 c.requires.solved.1.1 c.args.end (list_in c.args.after)))
    t.arranged

pub returns : goal.returns
returns g c =
    let i = g.B.Board.instance c.args.before.now in
    let s = list_in c.args.after in
    IsSolution-before_fuse i c.requires.solved.0 c.args.pipe c.args.end c.args.pole c.args.after
    c.in_ok-solution.solution c.follows_rules.ensures c.requires.allowed c.requires.solved.1 c.requires.solved.2
    c.in_ok-solution.ensures.names
    (subst (λ (o : List ℕ). IsReordered (graph i) s c.args.end c.args.pole o (list_in c.in_ok-solution.solution))
    (c.in_ok-order.ensures
    ∙ wanted-told i c.args.pipe c.requires.solved.1.0 c.requires.solved.1.1 c.args.end s)
    c.in_ok-solution.ensures.lists)
