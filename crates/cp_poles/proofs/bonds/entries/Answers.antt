-- The table has an edge for each component that an edge enters.
use Rattle.std.proofs.Common.{rules, ℕ, List, [], ◌≡◌, ◌∙◌, ap, length, set, slice_index, subst, sym, take}
use Rattle.std.specs.Prelude.{Some}
use Rattle.std.specs.List.{Contains}
use Rattle.std.proofs.lemmas.List.{take_all, take_more}
use Rattle.std.proofs.lemmas.List.Elements.{Contains-get_or}
use Rattle.cp_poles.specs.Between.{AreEntries, number_of}
use Rattle.cp_poles.specs.LocalBonds.{local_part}
use Rattle.cp_poles.proofs.LocalBonds.{edge_live, far_there, second_edges}
use Rattle.cp_poles.proofs.TakenEdges.{AreEntries-more, AreEntries-none}
use Rattle.cp_poles.proofs.bonds.entries.Goals as goal

pub loop-e-init : goal.loop-e-init
loop-e-init g c =
    let h = local_part (g.B.Board.instance c.args.board.now) c.args.between.now in
    let numbers = c.args.between.now.numbers.items in
    let size : c.len.result ≡ length numbers = search rules in
    subst (AreEntries h c.args.v numbers []) (sym c.in_ok-table.ensures)
    (AreEntries-none h c.args.v numbers c.len.result size)

pub far_end-far-requires : goal.far_end-far-requires
far_end-far-requires g c =
    let i = g.B.Board.instance c.args.board.now in
    let es = c.deref-e-items.result.now in
    let e = slice_index es c.loop-e.e-index in
    let same = c.deref-e-items.ensures.value ∙ c.in_ok-edges.ensures.names
    ∙ second_edges (g.B.Board.instance c.args.board.now) c.args.u c.args.v c.args.between.now c.requires in
    edge_live i c.args.u c.args.v c.args.between.now c.requires c.args.v e
    (subst (λ (xs : List ℕ). Contains xs e) same (Contains-get_or es c.loop-e.e-index 0 c.loop-e-test.true))

pub part_of-part-requires-clause-within : goal.part_of-part-requires-clause-within
part_of-part-requires-clause-within g c =
    let i = g.B.Board.instance c.args.board.now in
    let es = c.deref-e-items.result.now in
    let e = slice_index es c.loop-e.e-index in
    let same = c.deref-e-items.ensures.value ∙ c.in_ok-edges.ensures.names
    ∙ second_edges (g.B.Board.instance c.args.board.now) c.args.u c.args.v c.args.between.now c.requires in
    subst (Contains c.args.between.now.local.verts) (sym c.far_end-far.ensures.value)
    (far_there i c.args.u c.args.v c.args.between.now c.requires c.args.v e
    (subst (λ (xs : List ℕ). Contains xs e) same (Contains-get_or es c.loop-e.e-index 0 c.loop-e-test.true)))

pub loop-e-preserved : goal.loop-e-preserved
loop-e-preserved g c =
    let h = local_part (g.B.Board.instance c.args.board.now) c.args.between.now in
    let numbers = c.args.between.now.numbers.items in
    let es = c.deref-e-items.result.now in
    let k = c.loop-e.e-index in
    let e = slice_index es k in
    let part = c.part_of-part.result in
    subst (λ (xs : List ℕ). AreEntries h c.args.v numbers xs (set c.loop-e.table.items part (Some e)))
    (sym (take_more es k 0 c.loop-e-test.true))
    (AreEntries-more h c.args.v numbers (take k es) c.loop-e.table.items e part c.loop-e.invariant
    (c.part_of-part.ensures.value ∙ ap (number_of h numbers) c.far_end-far.ensures.value)
    c.part_of-part.ensures.within)

pub returns : goal.returns
returns g c =
    let h = local_part (g.B.Board.instance c.args.board.now) c.args.between.now in
    let numbers = c.args.between.now.numbers.items in
    let es = c.deref-e-items.result.now in
    let same = c.deref-e-items.ensures.value ∙ c.in_ok-edges.ensures.names
    ∙ second_edges (g.B.Board.instance c.args.board.now) c.args.u c.args.v c.args.between.now c.requires in
    subst (λ (xs : List ℕ). AreEntries h c.args.v numbers xs c.loop-e.table.items)
    (take_all c.loop-e.e-index es c.loop-e-test.false ∙ same) c.loop-e.invariant
