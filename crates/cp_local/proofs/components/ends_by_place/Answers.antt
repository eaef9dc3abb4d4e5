-- The edges are live, and their ends are among the vertices.
use Rattle.std.proofs.Common.{ℕ, slice_index, sym, ap, subst}
use Rattle.std.specs.List.{Contains}
use Rattle.std.proofs.lemmas.List.Elements.{Contains-get_or}
use Rattle.cp_local.proofs.components.ends_by_place.Goals as goal

pub ends-a-requires : goal.ends-a-requires
ends-a-requires g c =
    let k = c.loop-e.e-index in
    c.requires.edges_live (slice_index c.args.edges.now k) (Contains-get_or c.args.edges.now k 0 c.loop-e-test.true)

pub place_of-requires-clause-live : goal.place_of-requires-clause-live
place_of-requires-clause-live g c =
    let k = c.loop-e.e-index in
    subst (Contains c.args.verts.now) (sym (ap (λ (x : ℕ × ℕ). x.0) c.ends-a.ensures.value))
    (c.requires.ends_within (slice_index c.args.edges.now k)
    (Contains-get_or c.args.edges.now k 0 c.loop-e-test.true)).0

pub place_of-requires-in-loop-e-clause-live : goal.place_of-requires-in-loop-e-clause-live
place_of-requires-in-loop-e-clause-live g c =
    let k = c.loop-e.e-index in
    subst (Contains c.args.verts.now) (sym (ap (λ (x : ℕ × ℕ). x.1) c.ends-a.ensures.value))
    (c.requires.ends_within (slice_index c.args.edges.now k)
    (Contains-get_or c.args.edges.now k 0 c.loop-e-test.true)).1
