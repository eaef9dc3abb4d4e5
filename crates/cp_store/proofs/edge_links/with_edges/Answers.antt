use Rattle.std.proofs.Common.{◌≡◌, take, slice_index_or, subst, arith}
use Rattle.std.proofs.lemmas.List.{get_or_default, take_all}
use Rattle.cp_board.specs.declared.parts.EdgeRow.{EdgeRow}
use Rattle.cp_store.specs.Links.{HasLinks}
use Rattle.cp_store.specs.EdgeLinks.{added_links}
use Rattle.cp_store.proofs.Grown.{Keeps-next}
use Rattle.cp_store.proofs.Indexes.{added_links-more}
use Rattle.cp_store.proofs.edge_links.with_edges.Goals as goal

pub loop-e-preserved : goal.loop-e-preserved
loop-e-preserved c =
    let none : EdgeRow = record { name = 0; a = 0; b = 0 } in
    let ms = c.args.edges.now in
    let k = c.loop-e.e-index in
    let m : EdgeRow = slice_index_or ms k none in
    let is = get_or_default ms k none m c.loop-e-test.true in
    let held = c.loop-e.invariant in
    let out = c.in_ok-first.ensures in
    let back = c.in_ok-tree.ensures in (
      Keeps-next c.args.forest.now c.loop-e.forest c.linked-in-loop-e.new.forest held.0
          (Keeps-next c.loop-e.forest c.linked.new.forest c.linked-in-loop-e.new.forest out.keeps back.keeps),
      back.tree,
      λ test has. subst (HasLinks c.linked-in-loop-e.new.forest c.in_ok-tree.tree)
          (added_links-more ms k m test c.loop-e-test.true is)
          (back.links _ (out.links _ (held.2 test has))),
    )

pub returns-clause-links : goal.returns-clause-links
returns-clause-links c test has =
    let ms = c.args.edges.now in
    let all : take c.loop-e.e-index ms ≡ ms = take_all c.loop-e.e-index ms (omega (arith, c.loop-e-test.false)) in
    subst (λ xs. HasLinks c.loop-e.forest c.loop-e.tree (added_links xs test)) all (c.loop-e.invariant.2 test has)
