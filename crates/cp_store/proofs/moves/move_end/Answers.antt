use Rattle.std.proofs.Common.{sym, ap, ◌∙◌}
use Rattle.std.specs.Prelude.{Some}
use Rattle.cp_store.specs.Exchanges.{exchanged, items_of}
use Rattle.cp_store.proofs.ExchangedItems.{Some-same, under-named}
use Rattle.cp_store.proofs.Tables.{items-known, table-rises}
use Rattle.cp_store.proofs.EdgeMoves.{row_name, moved_end-name, moved-exchanged}
use Rattle.cp_store.proofs.moves.move_end.Goals as goal

pub after_move-requires : goal.after_move-requires
after_move-requires c =
    under-named row_name c.args.m.now.edge (items_of c.args.edges.now.entries.items) c.row_of-row.result c.row_of-row.ensures

pub exchange-requires-clause-reserved : goal.exchange-requires-clause-reserved
exchange-requires-clause-reserved c =
    let es = c.args.edges.now.entries.items in
    let row = c.row_of-row.result in
    record {
      known = items-known row_name c.args.m.now.edge es c.requires.table.named c.requires.live;
      named = λ x e. ap row_name (sym (Some-same c.after_move.result x e)) ∙ ap row_name c.after_move.ensures ∙ moved_end-name c.args.m.now row
          ∙ under-named row_name c.args.m.now.edge (items_of es) row c.row_of-row.ensures;
    }

pub returns-clause-items : goal.returns-clause-items
returns-clause-items c =
    let es = c.args.edges.now.entries.items in
    c.exchange.ensures.items
    ∙ ap (λ r. exchanged row_name c.args.m.now.edge (Some r) (items_of es)) c.after_move.ensures
    ∙ moved-exchanged c.args.m.now (items_of es) c.row_of-row.result (table-rises row_name es c.requires.table) c.row_of-row.ensures
