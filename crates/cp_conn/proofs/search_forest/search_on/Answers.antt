use Rattle.std.proofs.Common.{◌≡◌, length, arith}
use Rattle.cp_conn.specs.SearchForest.{forest_of}
use Rattle.cp_conn.proofs.Deepening.{rest_read, further_same}
use Rattle.cp_conn.proofs.search_forest.search_on.Goals as goal

pub loop-forest-init : goal.loop-forest-init
loop-forest-init c = record {
  stands = c.requires.stands;
  kept = λ v lt met. met;
  further = further_same (forest_of c.args.forest.now);
}

pub returns-clause-rests : goal.returns-clause-rests
returns-clause-rests c =
    let none : c.index.result.now ≡ 0 = omega arith in
    let root : c.index-else-index-gt0.result.now ≡ c.loop-forest.vertex = omega arith in
    rest_read c.args.ends.now (length c.args.next.now.items) (forest_of c.loop-forest.forest)
    c.loop-forest.next.items
    c.loop-forest.vertex c.index.result.now c.index-else-index-gt0.result.now c.loop-forest.invariant.stands
    c.index.ensures none c.index-else-index-gt0.ensures root
