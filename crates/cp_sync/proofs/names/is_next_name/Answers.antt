use Rattle.std.proofs.Common.{◌-◌, map, arith}
use Rattle.std.proofs.lemmas.Bool.{ltb-true, ltb-false}
use Rattle.std.proofs.lemmas.List.{length-map}
use Rattle.cp_sync.proofs.Places.{name_at}
use Rattle.cp_sync.proofs.Passes.{IsNextName-from, IsNextName-greater}
use Rattle.cp_sync.proofs.names.is_next_name.Goals as goal

pub returns-clause-yes : goal.returns-clause-yes
returns-clause-yes g c = λ t.
    let name = g.T.Named.name in
    let items = c.args.items.now in
    let here = name_at name items c.args.k c.index-items-k.result c.requires.within c.index-items-k.is in
    let before = name_at name items (c.args.k - 1) c.index-items-k-2.result (omega (arith, c.requires.within)) c.index-items-k-2.is in
    IsNextName-from (map name items) c.args.k (omega (arith, c.requires.within, length-map items name)) c.requires.before (omega (arith, c.if-k-eq0.false))
    (omega (arith, here, c.name-name.ensures, c.if-name-ge-NAMES.false))
    (omega (arith, here, before, c.name-name.ensures, c.name.ensures, ltb-true c.name.result c.name-name.result t))

pub returns-clause-no : goal.returns-clause-no
returns-clause-no g c = λ f next.
    let name = g.T.Named.name in
    let items = c.args.items.now in
    let here = name_at name items c.args.k c.index-items-k.result c.requires.within c.index-items-k.is in
    let before = name_at name items (c.args.k - 1) c.index-items-k-2.result (omega (arith, c.requires.within)) c.index-items-k-2.is in
    let less = IsNextName-greater (map name items) c.args.k (omega (arith, c.requires.within, length-map items name)) (omega (arith, c.if-k-eq0.false)) next in
    omega (arith, here, before, less, c.name-name.ensures, c.name.ensures, ltb-false c.name.result c.name-name.result f)
