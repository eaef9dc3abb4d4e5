use Rattle.std.proofs.Common.{length}
use Rattle.std.proofs.lemmas.Result.{IfOk-weaker}
use Rattle.cp_conn.specs.SearchForest.{forest_of}
use Rattle.cp_conn.proofs.Deepening.{begin_at}
use Rattle.cp_conn.proofs.search_forest.search_from.Goals as goal

pub search_on-requires-clause-stands : goal.search_on-requires-clause-stands
search_on-requires-clause-stands c =
    (begin_at c.args.ends.now (length c.args.next.now.items) (forest_of c.args.forest.now) c.args.next.now.items
    c.args.root (forest_of c.meet.new.forest)
    c.requires.ends_within c.requires.rests c.requires.root_within c.requires.new c.in_ok-meet.ensures).0

pub returns-clause-kept : goal.returns-clause-kept
returns-clause-kept c =
    let begun = begin_at c.args.ends.now
    (length c.args.next.now.items) (forest_of c.args.forest.now) c.args.next.now.items c.args.root
    (forest_of c.meet.new.forest)
    c.requires.ends_within c.requires.rests c.requires.root_within c.requires.new c.in_ok-meet.ensures in
    IfOk-weaker c.search_on.result _ _ (λ _ kept v lt met. kept v lt (begun.1 v lt met)) c.search_on.ensures.kept

pub returns-clause-met : goal.returns-clause-met
returns-clause-met c =
    let begun = begin_at c.args.ends.now
    (length c.args.next.now.items) (forest_of c.args.forest.now) c.args.next.now.items c.args.root
    (forest_of c.meet.new.forest)
    c.requires.ends_within c.requires.rests c.requires.root_within c.requires.new c.in_ok-meet.ensures in
    IfOk-weaker c.search_on.result _ _
    (λ _ kept. kept c.args.root c.requires.root_within begun.0.here) c.search_on.ensures.kept
