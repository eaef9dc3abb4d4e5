-- The parts between the poles are permuted in the rotation system, and its lists are read back.
use Rattle.std.proofs.Common.{ℕ, List, ◌<◌, ◌/◌, ◌∙◌, ap, length, map, slice_index, subst, sym}
use Rattle.std.specs.List.{All, Contains}
use Rattle.cp_conn.specs.NamedGraphs.{rank}
use Rattle.cp_rot.specs.Systems.{list_of}
use Rattle.cp_board.specs.Instances.{edge_names, graph}
use Rattle.cp_board.specs.Rotations.{dart, system}
use Rattle.cp_board.specs.Solutions.{list_in, with_list}
use Rattle.cp_poles.specs.Permuted.{IsReordered, edge_of_dart}
use Rattle.cp_poles.proofs.NumberedBonds.{IsBond-numbered}
use Rattle.cp_poles.proofs.PermutedLists.{listed_low, order_darts}
use Rattle.cp_poles.proofs.ReorderedLists.{IsReordered-made, arranged_live, arranges_given, bond_given, permuted_given}
use Rattle.cp_poles.proofs.SetLists.{names-with_list}
use Rattle.cp_poles.proofs.reordered.reordered.Goals as goal

pub darts_of_edges-requires-clause-live : goal.darts_of_edges-requires-clause-live
darts_of_edges-requires-clause-live g c =
    let i = g.B.Board.instance c.args.board.now in
    subst (All (Contains (edge_names i))) (sym c.items.ensures)
    (arranged_live (graph i) c.args.u c.args.order c.requires.arranged)

pub permute_components-requires-clause-bond : goal.permute_components-requires-clause-bond
permute_components-requires-clause-bond g c =
    let i = g.B.Board.instance c.args.board.now in
    let h = graph i in
    let u = c.args.u in
    let v = c.args.v in
    let s = list_in c.args.s in
    let first = c.place_of-first.ensures.value
    ∙ ap (λ (xs : List ℕ). rank xs u) (c.as_slice.ensures.value ∙ c.in_ok-verts.ensures.names) in
    let second = c.place_of-second.ensures.value
    ∙ ap (λ (xs : List ℕ). rank xs v) (c.as_slice-2.ensures.value ∙ c.in_ok-verts.ensures.names) in
    bond_given c.in_ok-rot.rot (system h s) c.place_of-first.result (rank h.verts u) c.place_of-second.result
    (rank h.verts v) c.in_ok-rot.ensures first second
    (IsBond-numbered i c.verts.ensures.rules s c.requires.rotation.arranged u v c.requires.live_u c.requires.live_v
    c.requires.bond)

pub permute_components-requires-clause-arranged : goal.permute_components-requires-clause-arranged
permute_components-requires-clause-arranged g c =
    let i = g.B.Board.instance c.args.board.now in
    let h = graph i in
    let u = c.args.u in
    let s = list_in c.args.s in
    let first = c.place_of-first.ensures.value
    ∙ ap (λ (xs : List ℕ). rank xs u) (c.as_slice.ensures.value ∙ c.in_ok-verts.ensures.names) in
    arranges_given c.in_ok-rot.rot (system h s) c.place_of-first.result (rank h.verts u) c.in_ok-darts.darts
    (map (dart h u) c.args.order) c.in_ok-rot.ensures first
    (c.in_ok-darts.ensures ∙ ap (map (dart h u)) c.items.ensures)
    (order_darts i c.verts.ensures.rules s c.requires.rotation u c.args.order c.requires.live_u c.requires.arranged)

pub edges_of_darts-requires : goal.edges_of_darts-requires
edges_of_darts-requires g c =
    let i = g.B.Board.instance c.args.board.now in
    let h = graph i in
    let u = c.args.u in
    let v = c.args.v in
    let s = list_in c.args.s in
    let t = c.in_ok-permuted.permuted in
    let first = c.place_of-first.ensures.value
    ∙ ap (λ (xs : List ℕ). rank xs u) (c.as_slice.ensures.value ∙ c.in_ok-verts.ensures.names) in
    let second = c.place_of-second.ensures.value
    ∙ ap (λ (xs : List ℕ). rank xs v) (c.as_slice-2.ensures.value ∙ c.in_ok-verts.ensures.names) in
    let made = permuted_given c.in_ok-rot.rot (system h s) c.place_of-first.result (rank h.verts u)
    c.place_of-second.result (rank h.verts v) c.in_ok-darts.darts (map (dart h u) c.args.order) t c.in_ok-rot.ensures
    first second (c.in_ok-darts.ensures ∙ ap (map (dart h u)) c.items.ensures) c.in_ok-permuted.ensures.result in
    subst (λ (xs : List ℕ). All (λ d. d / 2 < length xs) c.items-2.result.now)
    (sym (c.as_slice-4.ensures.value ∙ c.in_ok-edges.ensures.names))
    (subst (All (λ d. d / 2 < length (edge_names i)))
    (sym (c.items-2.ensures ∙ c.list.ensures ∙ ap (list_of t) second))
    (listed_low i c.verts.ensures.rules s c.requires.rotation u c.args.order c.requires.live_u c.requires.arranged v
    c.requires.live_v t c.is_rotation.ensures.rotation made c.in_ok-permuted.ensures.genus v c.requires.live_v))

pub returns-clause-names : goal.returns-clause-names
returns-clause-names g c =
    ap (map (λ (row : ℕ × List ℕ). row.0)) c.with_lists.ensures
    ∙ names-with_list c.args.v c.in_ok-row.row (with_list c.args.u c.args.order c.args.s)
    ∙ names-with_list c.args.u c.args.order c.args.s ∙ c.requires.names

pub returns-clause-lists : goal.returns-clause-lists
returns-clause-lists g c =
    let i = g.B.Board.instance c.args.board.now in
    let h = graph i in
    let u = c.args.u in
    let v = c.args.v in
    let s = list_in c.args.s in
    let t = c.in_ok-permuted.permuted in
    let first = c.place_of-first.ensures.value
    ∙ ap (λ (xs : List ℕ). rank xs u) (c.as_slice.ensures.value ∙ c.in_ok-verts.ensures.names) in
    let second = c.place_of-second.ensures.value
    ∙ ap (λ (xs : List ℕ). rank xs v) (c.as_slice-2.ensures.value ∙ c.in_ok-verts.ensures.names) in
    let made = permuted_given c.in_ok-rot.rot (system h s) c.place_of-first.result (rank h.verts u)
    c.place_of-second.result (rank h.verts v) c.in_ok-darts.darts (map (dart h u) c.args.order) t c.in_ok-rot.ensures
    first second (c.in_ok-darts.ensures ∙ ap (map (dart h u)) c.items.ensures) c.in_ok-permuted.ensures.result in
    let row = c.in_ok-row.ensures
    ∙ ap (λ (es : List ℕ). map (λ d. slice_index es (d / 2)) c.items-2.result.now)
    (c.as_slice-4.ensures.value ∙ c.in_ok-edges.ensures.names)
    ∙ ap (map (edge_of_dart h)) (c.items-2.ensures ∙ c.list.ensures ∙ ap (list_of t) second) in
    subst (λ (rows : List (ℕ × List ℕ)). IsReordered h s u v c.args.order (list_in rows)) (sym c.with_lists.ensures)
    (IsReordered-made i c.verts.ensures.rules c.args.s c.requires.names c.requires.rotation u v c.requires.live_u
    c.requires.live_v c.requires.bond.differ c.args.order c.requires.arranged t c.is_rotation.ensures.rotation made
    c.in_ok-permuted.ensures.genus c.in_ok-row.row row)
