use Rattle.std.proofs.Common.{◌≡◌, ◌<◌, [], sym, subst, ◌∙◌}
use Rattle.std.specs.Prelude.{IfOk}
use Rattle.std.specs.List.{Contains}
use Rattle.std.proofs.lemmas.List.{get_or_default, map-id}
use Rattle.cp_board.specs.Instances.{Synchronized, names_of_verts, vert_names, edges_of}
use Rattle.cp_sync.specs.Places.{IsLowerPlace}
use Rattle.cp_sync.proofs.VertexTables.{live_vertex, edges_of-value}
use Rattle.cp_sync.proofs.instance.InstanceBoard.edges_at.Goals as goal

pub returns-clause-names : goal.returns-clause-names
returns-clause-names c =
    let i : Synchronized = record { verts = c.self.inside.verts; edges = c.self.inside.edges; pipes = c.self.inside.pipes } in
    let live = subst (λ j. Contains (vert_names j) c.args.v) (sym c.self.view_is) c.requires in
    let low = subst (λ vs. IsLowerPlace (names_of_verts vs) c.args.v c.lower_place.result) c.items.ensures c.lower_place.ensures in
    let within = live_vertex i c.args.v c.lower_place.result c.self.invariant.0 live low in
    let here =
    map-id c.items-2.result.now ∙ c.items-2.ensures ∙ c.index-at.ensures
    ∙ get_or_default c.self.inside.at.items c.lower_place.result c.index-at.result.now [] (subst (λ n. c.lower_place.result < n) (sym c.self.invariant.1.one_each) within.0)
    ∙ edges_of-value i c.self.inside.at.items c.args.v c.lower_place.result c.self.invariant.0 c.self.invariant.1 live low in
    subst (λ j. IfOk c.names_of.result (λ names. names.items ≡ edges_of j c.args.v)) c.self.view_is
    (subst (λ xs. IfOk c.names_of.result (λ names. names.items ≡ xs)) here c.names_of.ensures)
