use Rattle.std.proofs.Common.{◌≡◌, ◌<◌, sym, subst, ◌∙◌}
use Rattle.std.specs.Prelude.{None}
use Rattle.std.specs.List.{Contains}
use Rattle.std.specs.Option.{option_map}
use Rattle.std.proofs.lemmas.List.{get_or_default}
use Rattle.cp_board.specs.Instances.{Synchronized, names_of_verts, vert_names, pipe_at}
use Rattle.cp_sync.specs.Places.{IsLowerPlace}
use Rattle.cp_sync.proofs.VertexTables.{live_vertex, pipe_at-value}
use Rattle.cp_sync.proofs.instance.InstanceBoard.pipe_at.Goals as goal

pub returns : goal.returns
returns c =
    let i : Synchronized = record { verts = c.self.inside.verts; edges = c.self.inside.edges; pipes = c.self.inside.pipes } in
    let live = subst (λ j. Contains (vert_names j) c.args.v) (sym c.self.view_is) c.requires in
    let low = subst (λ vs. IsLowerPlace (names_of_verts vs) c.args.v c.lower_place.result) c.items.ensures c.lower_place.ensures in
    let within = live_vertex i c.args.v c.lower_place.result c.self.invariant.0 live low in
    subst (λ j. c.index.result.now ≡ option_map (λ p. p.name) (pipe_at j c.args.v)) c.self.view_is
    (c.index.ensures
    ∙ get_or_default c.self.inside.piped.items c.lower_place.result c.index.result.now None (subst (λ n. c.lower_place.result < n) (sym c.self.invariant.2.one_each) within.0)
    ∙ pipe_at-value i c.self.inside.piped.items c.args.v c.lower_place.result c.self.invariant.0 c.self.invariant.2 live low)
