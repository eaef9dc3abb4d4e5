use Rattle.std.proofs.Common.{ap, subst, length, arith}
use Rattle.cp_sync.specs.Places.{IsLowerPlace}
use Rattle.cp_store.specs.Exchanges.{entry_names}
use Rattle.cp_store.proofs.Tables.{IsExchange-swapped, reserved_within}
use Rattle.cp_store.proofs.table.exchange.Goals as goal

pub index_mut-requires : goal.index_mut-requires
index_mut-requires g c =
    let es = c.args.table.now.entries.items in
    let low = subst (λ xs. IsLowerPlace (entry_names xs) c.args.entry.now.name c.lower_place-place.result) c.as_slice.ensures.value c.lower_place-place.ensures in
    let within = reserved_within es c.args.entry.now.name c.lower_place-place.result c.requires.table.rise c.requires.reserved.known low in
    omega (arith, within, c.as_slice.ensures.len, ap length c.as_slice.ensures.value)

pub returns-clause-items : goal.returns-clause-items
returns-clause-items g c =
    let low = subst (λ xs. IsLowerPlace (entry_names xs) c.args.entry.now.name c.lower_place-place.result) c.as_slice.ensures.value c.lower_place-place.ensures in
    (IsExchange-swapped g.T.Named.name c.args.table.now.entries.items c.lower_place-place.result c.args.entry.now c.index_mut.result.now c.swap.new.x c.swap.new.y
    c.requires.table c.requires.reserved low c.index_mut.ensures.value c.swap.ensures.x_after c.swap.ensures.y_after).items

pub returns-clause-back : goal.returns-clause-back
returns-clause-back g c =
    let low = subst (λ xs. IsLowerPlace (entry_names xs) c.args.entry.now.name c.lower_place-place.result) c.as_slice.ensures.value c.lower_place-place.ensures in
    (IsExchange-swapped g.T.Named.name c.args.table.now.entries.items c.lower_place-place.result c.args.entry.now c.index_mut.result.now c.swap.new.x c.swap.new.y
    c.requires.table c.requires.reserved low c.index_mut.ensures.value c.swap.ensures.x_after c.swap.ensures.y_after).back

pub returns-clause-table : goal.returns-clause-table
returns-clause-table g c =
    let low = subst (λ xs. IsLowerPlace (entry_names xs) c.args.entry.now.name c.lower_place-place.result) c.as_slice.ensures.value c.lower_place-place.ensures in
    (IsExchange-swapped g.T.Named.name c.args.table.now.entries.items c.lower_place-place.result c.args.entry.now c.index_mut.result.now c.swap.new.x c.swap.new.y
    c.requires.table c.requires.reserved low c.index_mut.ensures.value c.swap.ensures.x_after c.swap.ensures.y_after).table

pub returns-clause-names : goal.returns-clause-names
returns-clause-names g c =
    let low = subst (λ xs. IsLowerPlace (entry_names xs) c.args.entry.now.name c.lower_place-place.result) c.as_slice.ensures.value c.lower_place-place.ensures in
    (IsExchange-swapped g.T.Named.name c.args.table.now.entries.items c.lower_place-place.result c.args.entry.now c.index_mut.result.now c.swap.new.x c.swap.new.y
    c.requires.table c.requires.reserved low c.index_mut.ensures.value c.swap.ensures.x_after c.swap.ensures.y_after).names

pub returns-clause-reserved : goal.returns-clause-reserved
returns-clause-reserved g c =
    let low = subst (λ xs. IsLowerPlace (entry_names xs) c.args.entry.now.name c.lower_place-place.result) c.as_slice.ensures.value c.lower_place-place.ensures in
    (IsExchange-swapped g.T.Named.name c.args.table.now.entries.items c.lower_place-place.result c.args.entry.now c.index_mut.result.now c.swap.new.x c.swap.new.y
    c.requires.table c.requires.reserved low c.index_mut.ensures.value c.swap.ensures.x_after c.swap.ensures.y_after).reserved
