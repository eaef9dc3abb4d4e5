use Rattle.std.proofs.Common.{◌≡◌, ◌++◌, [], length, map, slice_index_or, ◌<◌, sym, ap, ◌∙◌, subst}
use Rattle.cp_store.specs.Exchanges.{with_item}
use Rattle.cp_store.proofs.ReadItems.{names-more}
use Rattle.cp_store.proofs.names.live_names.Goals as goal

pub loop-entry-preserved : goal.loop-entry-preserved
loop-entry-preserved g c =
    let es = c.args.table.now.entries.items in
    let k = c.loop-entry.entry-index in
    let e = c.entry-item.result in
    let lt = subst (λ xs. k < length xs) c.as_slice-entry-items.ensures.value c.loop-entry-test.true in
    let is = subst (λ xs. e ≡ slice_index_or xs k e) c.as_slice-entry-items.ensures.value c.entry-item.is in
    c.in_ok-append_name.ensures ∙ ap (λ xs. xs ++ map g.T.Named.name (with_item e.item [])) c.loop-entry.invariant
    ∙ sym (names-more g.T.Named.name es k e lt is)
