use Rattle.std.proofs.Common.{length, sym, subst}
use Rattle.std.specs.Prelude.{MatchOption}
use Rattle.std.proofs.lemmas.List.{get_or-map}
use Rattle.cp_board.specs.declared.parts.Vert.{Vert}
use Rattle.cp_board.specs.declared.parts.EdgeRow.{EdgeRow}
use Rattle.cp_board.specs.declared.parts.Pipe.{Pipe}
use Rattle.cp_board.specs.Instances.{Synchronized}
use Rattle.cp_board.specs.Faults.{IsFirstBroken}
use Rattle.cp_sync.specs.Faults.{with_parts}
use Rattle.cp_sync.specs.Tables.{AreAdjacent}
use Rattle.cp_sync.specs.Checks.{AllBelow, AllRise, IsFirstFailing, HasRightList, HasRightPartners}
use Rattle.cp_sync.proofs.RuleTables.{verts_rise, edges_rise, lists_rise, ends_live, ends_differ, pipes_live}
use Rattle.cp_sync.proofs.KeptRules.{ends_kept, ends_broken, lists_kept, lists_broken, pipe_ends_broken, partners_broken, rules_kept}
use Rattle.cp_sync.proofs.checked.tables.Goals as goal

pub first_wrong_edge-requires : goal.first_wrong_edge-requires
first_wrong_edge-requires c =
    verts_rise (with_parts c.args.verts.now c.args.edges.now c.args.pipes.now) c.in_default.ensures

pub returns-in-Some-first_wrong_edge-clause-err : goal.returns-in-Some-first_wrong_edge-clause-err
returns-in-Some-first_wrong_edge-clause-err c =
    let i : Synchronized = with_parts c.args.verts.now c.args.edges.now c.args.pipes.now in
    let k = c.in-Some-first_wrong_edge.k in
    let first = c.in-Some-first_wrong_edge.ensures in
    subst (IsFirstBroken i 2) (get_or-map (λ (e : EdgeRow). e.name) c.args.edges.now k record { name = 0; a = 0; b = 0 } 0 first.within)
    (ends_broken i c.in_default.ensures k first)

pub adjacency-requires-clause-rising : goal.adjacency-requires-clause-rising
adjacency-requires-clause-rising c =
    verts_rise (with_parts c.args.verts.now c.args.edges.now c.args.pipes.now) c.in_default.ensures

pub mark_all-requires-clause-rising : goal.mark_all-requires-clause-rising
mark_all-requires-clause-rising c =
    verts_rise (with_parts c.args.verts.now c.args.edges.now c.args.pipes.now) c.in_default.ensures

pub first_wrong_pairs-requires-clause-rising : goal.first_wrong_pairs-requires-clause-rising
first_wrong_pairs-requires-clause-rising c =
    verts_rise (with_parts c.args.verts.now c.args.edges.now c.args.pipes.now) c.in_default.ensures

pub adjacency-requires-clause-live : goal.adjacency-requires-clause-live
adjacency-requires-clause-live c =
    let i : Synchronized = with_parts c.args.verts.now c.args.edges.now c.args.pipes.now in
    ends_live i (ends_kept i c.in_default.ensures c.in_default-first_wrong_edge.ensures)

pub adjacency-requires-clause-differ : goal.adjacency-requires-clause-differ
adjacency-requires-clause-differ c =
    let i : Synchronized = with_parts c.args.verts.now c.args.edges.now c.args.pipes.now in
    ends_differ i (ends_kept i c.in_default.ensures c.in_default-first_wrong_edge.ensures)

pub first_wrong_list-requires-clause-rising : goal.first_wrong_list-requires-clause-rising
first_wrong_list-requires-clause-rising c =
    let i : Synchronized = with_parts c.args.verts.now c.args.edges.now c.args.pipes.now in
    subst AllRise (sym c.as_slice.ensures.value)
    (lists_rise i c.in_ok-at.at.items (edges_rise i c.in_default.ensures) c.in_ok-at.ensures)

pub first_wrong_pairs-requires-clause-lists_rise : goal.first_wrong_pairs-requires-clause-lists_rise
first_wrong_pairs-requires-clause-lists_rise c =
    let i : Synchronized = with_parts c.args.verts.now c.args.edges.now c.args.pipes.now in
    subst AllRise (sym c.as_slice-2.ensures.value)
    (lists_rise i c.in_ok-at.at.items (edges_rise i c.in_default.ensures) c.in_ok-at.ensures)

pub first_wrong_pairs-requires-clause-live : goal.first_wrong_pairs-requires-clause-live
first_wrong_pairs-requires-clause-live c =
    pipes_live (with_parts c.args.verts.now c.args.edges.now c.args.pipes.now) c.in_default-mark_all.ensures.first

pub returns-in-Some-2-clause-err : goal.returns-in-Some-2-clause-err
returns-in-Some-2-clause-err c =
    let i : Synchronized = with_parts c.args.verts.now c.args.edges.now c.args.pipes.now in
    let names = c.in_default.ensures in
    let ends = ends_kept i names c.in_default-first_wrong_edge.ensures in
    let up = edges_rise i names in
    let adjacent = subst (AreAdjacent c.args.verts.now c.args.edges.now) (sym c.as_slice.ensures.value) c.in_ok-at.ensures in
    let k = c.in-Some-2.k in
    let first = subst (λ o. MatchOption o (AllBelow (HasRightList c.args.verts.now c.as_slice.result.now) (length c.args.verts.now)) (IsFirstFailing (HasRightList c.args.verts.now c.as_slice.result.now) (length c.args.verts.now))) c.in-Some-2.is c.in_ok-k.ensures in
    subst (IsFirstBroken i 3) (get_or-map (λ (v : Vert). v.name) c.args.verts.now k c.index-verts-k.result 0 first.within)
    (lists_broken i names ends c.as_slice.result.now up adjacent k first)

pub returns-in-Some-mark_all-clause-err : goal.returns-in-Some-mark_all-clause-err
returns-in-Some-mark_all-clause-err c =
    let i : Synchronized = with_parts c.args.verts.now c.args.edges.now c.args.pipes.now in
    let names = c.in_default.ensures in
    let ends = ends_kept i names c.in_default-first_wrong_edge.ensures in
    let up = edges_rise i names in
    let table = subst (AreAdjacent c.args.verts.now c.args.edges.now) (sym c.as_slice.ensures.value) c.in_ok-at.ensures in
    let lists = lists_kept i names ends c.as_slice.result.now up table
    (subst (λ o. MatchOption o (AllBelow (HasRightList c.args.verts.now c.as_slice.result.now) (length c.args.verts.now)) (IsFirstFailing (HasRightList c.args.verts.now c.as_slice.result.now) (length c.args.verts.now))) c.in_default-2.is c.in_ok-k.ensures) in
    let k = c.in-Some-mark_all.k in
    let first = c.in-Some-mark_all.ensures.first in
    subst (IsFirstBroken i 4) (get_or-map (λ (p : Pipe). p.name) c.args.pipes.now k c.index-pipes-k.result 0 first.within)
    (pipe_ends_broken i names ends c.as_slice.result.now up table lists k first)

pub returns-in-Some-3-clause-err : goal.returns-in-Some-3-clause-err
returns-in-Some-3-clause-err c =
    let i : Synchronized = with_parts c.args.verts.now c.args.edges.now c.args.pipes.now in
    let names = c.in_default.ensures in
    let ends = ends_kept i names c.in_default-first_wrong_edge.ensures in
    let up = edges_rise i names in
    let table = subst (AreAdjacent c.args.verts.now c.args.edges.now) (sym c.as_slice.ensures.value) c.in_ok-at.ensures in
    let lists = lists_kept i names ends c.as_slice.result.now up table
    (subst (λ o. MatchOption o (AllBelow (HasRightList c.args.verts.now c.as_slice.result.now) (length c.args.verts.now)) (IsFirstFailing (HasRightList c.args.verts.now c.as_slice.result.now) (length c.args.verts.now))) c.in_default-2.is c.in_ok-k.ensures) in
    let adjacent = subst (AreAdjacent c.args.verts.now c.args.edges.now) (sym c.as_slice-2.ensures.value) c.in_ok-at.ensures in
    let k = c.in-Some-3.k in
    let first = subst (λ o. MatchOption o (AllBelow (HasRightPartners c.args.verts.now c.as_slice-2.result.now c.args.pipes.now) (length c.args.pipes.now)) (IsFirstFailing (HasRightPartners c.args.verts.now c.as_slice-2.result.now c.args.pipes.now) (length c.args.pipes.now))) c.in-Some-3.is c.in_ok-k-2.ensures in
    subst (IsFirstBroken i 5) (get_or-map (λ (p : Pipe). p.name) c.args.pipes.now k c.index-pipes-k-in-Some-3.result 0 first.within)
    (partners_broken i names ends c.as_slice-2.result.now up adjacent lists c.in_default-mark_all.ensures.first k first)

pub returns-clause-rules : goal.returns-clause-rules
returns-clause-rules c =
    let i : Synchronized = with_parts c.args.verts.now c.args.edges.now c.args.pipes.now in
    let names = c.in_default.ensures in
    let ends = ends_kept i names c.in_default-first_wrong_edge.ensures in
    let up = edges_rise i names in
    let table = subst (AreAdjacent c.args.verts.now c.args.edges.now) (sym c.as_slice.ensures.value) c.in_ok-at.ensures in
    let lists = lists_kept i names ends c.as_slice.result.now up table
    (subst (λ o. MatchOption o (AllBelow (HasRightList c.args.verts.now c.as_slice.result.now) (length c.args.verts.now)) (IsFirstFailing (HasRightList c.args.verts.now c.as_slice.result.now) (length c.args.verts.now))) c.in_default-2.is c.in_ok-k.ensures) in
    let adjacent = subst (AreAdjacent c.args.verts.now c.args.edges.now) (sym c.as_slice-2.ensures.value) c.in_ok-at.ensures in
    rules_kept i names ends c.as_slice-2.result.now up adjacent lists c.in_default-mark_all.ensures.first
    (subst (λ o. MatchOption o (AllBelow (HasRightPartners c.args.verts.now c.as_slice-2.result.now c.args.pipes.now) (length c.args.pipes.now)) (IsFirstFailing (HasRightPartners c.args.verts.now c.as_slice-2.result.now c.args.pipes.now) (length c.args.pipes.now))) c.in_default-3.is c.in_ok-k-2.ensures)
