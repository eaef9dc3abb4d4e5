use Rattle.std.proofs.Common.{ℕ, length, sym, ap, subst, arith}
use Rattle.std.proofs.lemmas.List.{length_push}
use Rattle.cp_conn.specs.SearchForest.{Forest, forest_of}
use Rattle.cp_conn.specs.Deepening.{StandsAt, Rests}
use Rattle.cp_conn.proofs.Deepening.{no_forest-IsVertex, with_vertex-IsVertex, forest_made}
use Rattle.cp_conn.proofs.SearchTrees.{ends_below, begin_two, all_met_at_rest, two_first}
use Rattle.cp_conn.proofs.rooted_search.forest_from.Goals as goal

pub meet-requires : goal.meet-requires
meet-requires c =
    no_forest-IsVertex (forest_of c.in_ok-forest.forest) c.args.vertices c.args.s c.in_ok-forest.ensures
    (ends_below c.args.ends.now c.args.vertices c.args.s c.args.t c.requires.ends_within c.requires.joined).0

pub meet-requires-2 : goal.meet-requires-2
meet-requires-2 c =
    with_vertex-IsVertex (forest_of c.in_ok-forest.forest) (forest_of c.meet.new.forest) c.args.s c.args.s 0 c.args.t
    c.in_ok-meet.ensures
    (no_forest-IsVertex (forest_of c.in_ok-forest.forest) c.args.vertices c.args.t c.in_ok-forest.ensures
    (ends_below c.args.ends.now c.args.vertices c.args.s c.args.t c.requires.ends_within c.requires.joined).1)

pub search_on-requires-clause-stands : goal.search_on-requires-clause-stands
search_on-requires-clause-stands c =
    subst (λ (k : ℕ). StandsAt c.args.ends.now k
    (forest_of c.meet-2.new.forest) c.in_ok-darts.darts.entries.items c.args.t)
    (sym c.in_ok-darts.ensures.entry_each)
    (begin_two c.args.ends.now c.args.vertices c.args.s c.args.t c.edge_between.result
    (forest_of c.in_ok-forest.forest) c.in_ok-darts.darts.entries.items c.in_ok-darts.darts.lower.items
    (forest_of c.meet.new.forest)
    (forest_of c.meet-2.new.forest)
    c.requires.ends_within c.in_ok-darts.ensures c.requires.joined c.edge_between.ensures.within
    c.edge_between.ensures.joined c.in_ok-forest.ensures
    c.in_ok-meet.ensures
    c.in_ok-meet-2.ensures)

pub returns-clause-first : goal.returns-clause-first
returns-clause-first c =
    (two_first (forest_of c.in_ok-forest.forest) (forest_of c.meet.new.forest) (forest_of c.meet-2.new.forest)
    (forest_of c.search_on.new.forest) c.args.s c.args.t c.args.vertices c.args.s 0 c.edge_between.result
    c.in_ok-forest.ensures c.in_ok-meet.ensures c.in_ok-meet-2.ensures c.in_ok-search_on.ensures.further).0

pub returns-clause-second : goal.returns-clause-second
returns-clause-second c =
    (two_first (forest_of c.in_ok-forest.forest) (forest_of c.meet.new.forest) (forest_of c.meet-2.new.forest)
    (forest_of c.search_on.new.forest) c.args.s c.args.t c.args.vertices c.args.s 0 c.edge_between.result
    c.in_ok-forest.ensures c.in_ok-meet.ensures c.in_ok-meet-2.ensures c.in_ok-search_on.ensures.further).1

pub returns-clause-all_met : goal.returns-clause-all_met
returns-clause-all_met c v lt =
    all_met_at_rest c.args.ends.now
    (length c.in_ok-darts.darts.entries.items) c.args.vertices (forest_of c.search_on.new.forest)
    c.search_on.new.next.items c.args.s c.args.t
    c.in_ok-darts.ensures.entry_each c.requires.ends_within c.in_ok-search_on.ensures.rests c.requires.joined
    c.requires.connected (returns-clause-first c)
    (omega (
      arith,
      c.in_ok-search_on.ensures.further.longer,
      ap (λ (g : Forest). length g.order) c.in_ok-meet-2.ensures,
      length_push
          c.meet.new.forest.order.items c.args.t,
    )) v lt

pub returns-clause-forest : goal.returns-clause-forest
returns-clause-forest c =
    forest_made c.args.ends.now c.args.vertices (forest_of c.search_on.new.forest) c.search_on.new.next.items
    c.requires.ends_within
    (subst (λ (k : ℕ). Rests c.args.ends.now k (forest_of c.search_on.new.forest) c.search_on.new.next.items)
    c.in_ok-darts.ensures.entry_each c.in_ok-search_on.ensures.rests)
    (λ v lt. returns-clause-all_met c v lt)
