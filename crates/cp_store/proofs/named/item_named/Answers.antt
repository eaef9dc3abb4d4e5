use Rattle.std.proofs.Common.{◌<◌, length, sym, ◌∙◌, arith}
use Rattle.std.proofs.lemmas.List.{length-map}
use Rattle.cp_sync.proofs.Places.{found_place, find-behind_all, find-passed}
use Rattle.cp_store.proofs.named.item_named.Goals as goal

pub returns-then-place-items : goal.returns-then-place-items
returns-then-place-items g c =
    find-behind_all g.T.Named.name c.args.name c.args.items.now c.lower_place-place.result c.lower_place-place.ensures c.if-place-items.true

pub returns-then-name : goal.returns-then-name
returns-then-name g c =
    let name = g.T.Named.name in
    let within : c.lower_place-place.result < length c.args.items.now = omega (arith, c.lower_place-place.ensures.within, c.if-place-items.false, length-map c.args.items.now name) in
    found_place name c.args.name c.args.items.now c.lower_place-place.result c.index-items-place.result c.requires within c.index-items-place.is (sym c.name.ensures ∙ c.if-name.true)

pub returns-else-name : goal.returns-else-name
returns-else-name g c =
    let name = g.T.Named.name in
    let within : c.lower_place-place.result < length c.args.items.now = omega (arith, c.lower_place-place.ensures.within, c.if-place-items.false, length-map c.args.items.now name) in
    find-passed name c.args.name c.args.items.now c.lower_place-place.result c.index-items-place.result c.requires c.lower_place-place.ensures within c.index-items-place.is (λ e. c.if-name.false (c.name.ensures ∙ e))
