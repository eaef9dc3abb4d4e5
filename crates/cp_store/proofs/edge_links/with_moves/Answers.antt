use Rattle.std.proofs.Common.{◌≡◌, take, slice_index_or, subst, arith}
use Rattle.std.proofs.lemmas.List.{get_or_default, take_all}
use Rattle.cp_board.specs.declared.rewrite.EdgeMove.{EdgeMove}
use Rattle.cp_store.specs.Links.{HasLinks}
use Rattle.cp_store.specs.EdgeLinks.{moved_links}
use Rattle.cp_store.proofs.Grown.{Keeps-next}
use Rattle.cp_store.proofs.Indexes.{moved_links-more}
use Rattle.cp_store.proofs.edge_links.with_moves.Goals as goal

pub loop-m-preserved : goal.loop-m-preserved
loop-m-preserved c =
    let none : EdgeMove = record { edge = 0; from = 0; to = 0 } in
    let ms = c.args.moves.now in
    let k = c.loop-m.m-index in
    let m : EdgeMove = slice_index_or ms k none in
    let is = get_or_default ms k none m c.loop-m-test.true in
    let held = c.loop-m.invariant in
    let out = c.in_ok-without.ensures in
    let back = c.in_ok-tree.ensures in (
      Keeps-next c.args.forest.now c.loop-m.forest c.linked.new.forest held.0
          (Keeps-next c.loop-m.forest c.unlinked.new.forest c.linked.new.forest out.keeps back.keeps),
      back.tree,
      λ test has. subst (HasLinks c.linked.new.forest c.in_ok-tree.tree)
          (moved_links-more ms k m test c.loop-m-test.true is)
          (back.links _ (out.links _ (held.2 test has))),
    )

pub returns-clause-links : goal.returns-clause-links
returns-clause-links c test has =
    let ms = c.args.moves.now in
    let all : take c.loop-m.m-index ms ≡ ms = take_all c.loop-m.m-index ms (omega (arith, c.loop-m-test.false)) in
    subst (λ xs. HasLinks c.loop-m.forest c.loop-m.tree (moved_links xs test)) all (c.loop-m.invariant.2 test has)
