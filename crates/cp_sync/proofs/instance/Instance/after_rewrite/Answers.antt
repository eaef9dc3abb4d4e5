use Rattle.std.proofs.Common.{sym, subst}
use Rattle.std.specs.List.{All, Contains}
use Rattle.cp_board.specs.declared.rewrite.EdgeMove.{EdgeMove}
use Rattle.cp_board.specs.Instances.{Synchronized, names_of_edges}
use Rattle.cp_board.specs.Rewrites.{IsRewriteOf, verts_with}
use Rattle.cp_sync.proofs.Moves.{moves_live}
use Rattle.cp_sync.proofs.instance.Instance.after_rewrite.Goals as goal

pub edges_after-requires-clause-live : goal.edges_after-requires-clause-live
edges_after-requires-clause-live c =
    let i : Synchronized = record { verts = c.self.inside.verts; edges = c.self.inside.edges; pipes = c.self.inside.pipes } in
    let fits = subst (λ j. IsRewriteOf j c.args.w.now) (sym c.self.view_is) c.requires in
    subst (λ es. All (λ (m : EdgeMove). Contains (names_of_edges es) m.edge) c.args.w.now.moves) (sym c.items-2.ensures)
    (moves_live (verts_with c.args.w.now i) i.edges c.args.w.now.moves fits.moves)
