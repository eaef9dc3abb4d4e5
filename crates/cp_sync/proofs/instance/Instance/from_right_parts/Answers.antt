use Rattle.std.proofs.Common.{[], length, sym, subst}
use Rattle.std.specs.List.{All, Contains}
use Rattle.cp_board.specs.declared.parts.EdgeRow.{EdgeRow}
use Rattle.cp_board.specs.Instances.{names_of_verts}
use Rattle.cp_board.specs.Faults.{Keeps, PipeEnds, PipeAt}
use Rattle.cp_sync.specs.Checks.{AllBelow}
use Rattle.cp_sync.specs.Faults.{with_parts}
use Rattle.cp_sync.proofs.RightPipes.{pipe_ends_right}
use Rattle.cp_sync.proofs.instance.Instance.from_right_parts.Goals as goal

pub adjacency-requires-clause-live : goal.adjacency-requires-clause-live
adjacency-requires-clause-live c =
    subst (All (λ (e : EdgeRow). Contains (names_of_verts c.items.result.now) e.a × Contains (names_of_verts c.items.result.now) e.b)) (sym c.items-2.ensures)
    (subst (λ vs. All (λ (e : EdgeRow). Contains (names_of_verts vs) e.a × Contains (names_of_verts vs) e.b) c.args.edges) (sym c.items.ensures) c.requires.ends_live)

pub piping-requires-clause-right : goal.piping-requires-clause-right
piping-requires-clause-right c =
    subst (λ ps. AllBelow (λ k. Keeps record { verts = c.items-3.result.now; edges = []; pipes = ps } PipeEnds (PipeAt k)) (length ps)) (sym c.items-4.ensures)
    (subst (λ vs. AllBelow (λ k. Keeps record { verts = vs; edges = []; pipes = c.args.pipes } PipeEnds (PipeAt k)) (length c.args.pipes)) (sym c.items-3.ensures)
    (pipe_ends_right (with_parts c.args.verts c.args.edges c.args.pipes) c.requires))
