-- One part more is told.
use Rattle.std.proofs.Common.{ℕ, List, ◌-◌, ◌∙◌, cond, length, ap, subst, arith}
use Rattle.cp_board.specs.Names.{has}
use Rattle.cp_join.specs.EdgePlaces.{TellsParts, place_in}
use Rattle.cp_join.proofs.TablesOfPlaces.{none_at_first, told_before, told_at_end, told_all}
use Rattle.cp_join.proofs.edge_places.parts_by_edge.Goals as goal

pub loop-left-init : goal.loop-left-init
loop-left-init c = record {
  within = omega arith;
  told = λ e.
      none_at_first c.new-places.result c.new-places.ensures.empty (length c.items-lists.result.now) e
      ∙ told_at_end (λ (part : List ℕ). has part e) c.items-lists.result.now;
}

pub loop-left-preserved : goal.loop-left-preserved
loop-left-preserved c =
    let lists = c.items-lists.result.now in
    let left = c.loop-left.left in
    let number = length lists in
    record {
      within = omega (arith, c.loop-left.invariant.within);
      told = λ e.
          told_before (λ (part : List ℕ). has part e) lists left c.index-lists-left.result
          (place_in c.loop-left.places number e) (place_in c.place_part.new.places number e) c.loop-left-test.true
          c.loop-left.invariant.within (c.loop-left.invariant.told e)
          (c.in_ok-place_part.ensures number e
          ∙ ap (λ part. cond (has part e) (left - 1) (place_in c.loop-left.places number e))
          (c.items.ensures ∙ c.index-lists-left.is));
    }

pub returns : goal.returns
returns c =
    subst (λ parts. TellsParts parts c.loop-left.places) c.items-lists.ensures
    (λ e. told_all (λ (part : List ℕ). has part e) c.items-lists.result.now c.loop-left.left
    (place_in c.loop-left.places (length c.items-lists.result.now) e) (omega (arith, c.loop-left-test.false))
    (c.loop-left.invariant.told e))
