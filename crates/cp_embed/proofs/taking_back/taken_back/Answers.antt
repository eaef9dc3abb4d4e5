-- The run of the vertex's edges stands at its place and is as long as their list.
use Rattle.std.proofs.Common.{◌≡◌, ◌+◌, ◌≤◌, ◌++◌, length, slice_index, take, drop, sym, ap, ◌∙◌, arith}
use Rattle.cp_lists.proofs.DistinctLists.{Has_at}
use Rattle.cp_force.specs.Words.{part_word}
use Rattle.cp_embed.proofs.EdgeRuns.{run-end, run-IsTakenOutOf}
use Rattle.cp_embed.proofs.taking_back.taken_back.Goals as goal

pub place_of_run-start-requires : goal.place_of_run-start-requires
place_of_run-start-requires c = λ i lt. c.requires.within (slice_index c.args.word.now i) (Has_at c.args.word.now i lt)

pub slice_bounds-list_round-end : goal.slice_bounds-list_round-end
slice_bounds-list_round-end c =
    let fits : c.place_of_run-start.result + length c.args.frame.now.outs.items ≤ length c.args.word.now =
    run-end c.args.ends.now c.args.frame.now.vertex c.args.frame.now.outs.items c.args.word.now c.requires
    c.place_of_run-start.result c.place_of_run-start.ensures.within c.place_of_run-start.ensures.before
    c.place_of_run-start.ensures.there
    in
    omega (arith, fits, c.len.ensures, c.args.frame.now.outs.ok)

pub returns : goal.returns
returns c =
    run-IsTakenOutOf c.args.ends.now c.args.frame.now.vertex c.args.frame.now.outs.items c.args.word.now c.requires
    c.place_of_run-start.result c.place_of_run-start.ensures.within c.place_of_run-start.ensures.before
    c.place_of_run-start.ensures.there (part_word c.args.bits.now c.args.frame.now.part) c.as_slice.result.now
    c.in_ok-word.word.items c.in_ok-list.list (c.place_of_run-start.result + c.len.result)
    (let e : c.place_of_run-start.result + c.len.result
    ≡ c.place_of_run-start.result + length c.args.frame.now.outs.items =
    omega (arith, c.len.ensures, c.args.frame.now.outs.ok) in e)
    (c.as_slice.ensures.value ∙ c.in_ok-push_part.ensures
    ∙ ap (λ us. us ++ part_word c.args.bits.now c.args.frame.now.part) c.new-row.ensures.items)
    (c.in_ok-word.ensures ∙ ap (λ us. take c.place_of_run-start.result c.args.word.now
    ++ (us ++ drop (c.place_of_run-start.result + c.len.result) c.args.word.now))
    (c.as_slice-2.ensures.value ∙ sym c.as_slice.ensures.value))
    c.in_ok-list.ensures
