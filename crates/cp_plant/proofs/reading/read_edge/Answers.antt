-- A vertex that is found has a list.
use Rattle.std.proofs.Common.{◌∷◌, map, sym, ◌∙◌, ℕ, List}
use Rattle.std.specs.List.{Contains}
use Rattle.std.proofs.lemmas.List.Elements.{All-contains}
use Rattle.cp_lists.proofs.DistinctLists.{Has-Contains}
use Rattle.cp_plant.proofs.FoundVertices.{found-Has}
use Rattle.cp_plant.proofs.reading.read_edge.Goals as goal

pub list_of-requires : goal.list_of-requires
list_of-requires c =
    All-contains (λ v. Contains (map (λ (row : ℕ × List ℕ). row.0) c.args.after.now) v) c.args.verts.now c.in-Some.v
    c.requires.live ((Has-Contains c.in-Some.v c.args.verts.now).0
    (found-Has (c.args.root ∷ c.args.edges.now) c.args.verts.now c.args.x c.in-Some.v (sym c.found_vertex.ensures ∙ c.in-Some.is)))
