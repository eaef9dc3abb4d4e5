-- The least names that are not live in the tables are those of the present instance.
use Rattle.std.proofs.Common.{◌≡◌, subst, sym}
use Rattle.std.specs.Prelude.{IfOk}
use Rattle.cp_board.specs.Instances.{edge_names, pipe_names, vert_names}
use Rattle.cp_board.specs.Names.{new_names}
use Rattle.cp_board.specs.Rewrites.{names_of}
use Rattle.cp_store.specs.Histories.{present_of}
use Rattle.cp_store.proofs.StoredStates.{told-present}
use Rattle.cp_store.proofs.store.StoreBoard.free_names.Goals as goal

pub returns-in-Vert : goal.returns-in-Vert
returns-in-Vert c =
    subst (λ k. IfOk c.least_gaps.result (λ names. names.items
    ≡ new_names (names_of (present_of c.args.self.now) k) c.args.n)) (sym c.in-Vert.is)
    (subst (λ i. IfOk c.least_gaps.result (λ names. names.items ≡ new_names (vert_names i) c.args.n))
    (told-present c.self.inside.parts c.self.inside.log.items c.args.self.now c.self.view_is)
    c.least_gaps.ensures)

pub returns-in-Edge : goal.returns-in-Edge
returns-in-Edge c =
    subst (λ k. IfOk c.least_gaps-in-Edge.result (λ names. names.items
    ≡ new_names (names_of (present_of c.args.self.now) k) c.args.n)) (sym c.in-Edge.is)
    (subst (λ i. IfOk c.least_gaps-in-Edge.result (λ names. names.items ≡ new_names (edge_names i) c.args.n))
    (told-present c.self.inside.parts c.self.inside.log.items c.args.self.now c.self.view_is)
    c.least_gaps-in-Edge.ensures)

pub returns-in-Pipe : goal.returns-in-Pipe
returns-in-Pipe c =
    subst (λ k. IfOk c.least_gaps-in-Pipe.result (λ names. names.items
    ≡ new_names (names_of (present_of c.args.self.now) k) c.args.n)) (sym c.in-Pipe.is)
    (subst (λ i. IfOk c.least_gaps-in-Pipe.result (λ names. names.items ≡ new_names (pipe_names i) c.args.n))
    (told-present c.self.inside.parts c.self.inside.log.items c.args.self.now c.self.view_is)
    c.least_gaps-in-Pipe.ensures)
