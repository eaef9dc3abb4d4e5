use Rattle.std.proofs.Common.{◌≡◌, length, arith}
use Rattle.cp_conn.specs.SearchForest.{forest_of}
use Rattle.cp_conn.proofs.Deepening.{go_parent_read}
use Rattle.cp_conn.proofs.search_forest.go_on.Goals as goal

pub returns-else-index-gt0-clause-stands : goal.returns-else-index-gt0-clause-stands
returns-else-index-gt0-clause-stands c =
    let none : c.index.result.now ≡ 0 = omega arith in
    go_parent_read c.args.ends.now
    (length c.args.next.now.items) (forest_of c.args.forest.now) c.args.next.now.items c.args.vertex
    c.index.result.now c.index-else-index-gt0.result.now c.requires.stands c.requires.more c.index.ensures none
    c.index-else-index-gt0.ensures
