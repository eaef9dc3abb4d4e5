use Rattle.std.proofs.Common.{◌≡◌, ◌++◌, ◌∷◌, [], not, take, slice_index_or, sym, ap, ◌∙◌, subst, arith}
use Rattle.std.specs.Prelude.{filter}
use Rattle.std.proofs.lemmas.List.{get_or_default, take_all, take_more}
use Rattle.cp_board.specs.declared.parts.Pipe.{Pipe}
use Rattle.cp_board.specs.Names.{has}
use Rattle.cp_store.specs.Exchanges.{items_of}
use Rattle.cp_store.specs.PipeLinks.{HasPipeLinks}
use Rattle.cp_store.proofs.Grown.{Keeps-same, Keeps-next}
use Rattle.cp_store.proofs.PipeTests.{kept-more, kept-all}
use Rattle.cp_store.proofs.pipe_links.without_names.Goals as goal

pub loop-name-init : goal.loop-name-init
loop-name-init c = (
  Keeps-same c.args.forest.now,
  c.requires.trees,
  λ are. subst (HasPipeLinks c.args.forest.now c.args.roots) (sym (kept-all (items_of c.args.pipes.now.entries.items)))
      are,
)

pub loop-name-preserved : goal.loop-name-preserved
loop-name-preserved c =
    let all = c.args.names.now in
    let items = items_of c.args.pipes.now.entries.items in
    let k = c.loop-name.name-index in
    let held = c.loop-name.invariant in
    let out = c.in_ok-trees.ensures in
    let n = slice_index_or all k 0 in
    let is = get_or_default all k 0 n c.loop-name-test.true in (
      Keeps-next c.args.forest.now c.loop-name.forest c.without_name.new.forest held.0 out.keeps,
      out.trees,
      λ are. subst (HasPipeLinks c.without_name.new.forest c.in_ok-trees.trees)
          (kept-more (take k all) n items
          ∙ ap (λ ns. filter (λ (q : Pipe). not (has ns q.name)) items)
          (ap (λ x. take k all ++ x ∷ []) is ∙ sym (take_more all k n c.loop-name-test.true)))
          (out.links (λ m. not (has (take k all) m)) (held.2 are)),
    )

pub returns-clause-links : goal.returns-clause-links
returns-clause-links c has_links =
    let all = c.args.names.now in
    let items = items_of c.args.pipes.now.entries.items in
    let whole : take c.loop-name.name-index all ≡ all =
    take_all c.loop-name.name-index all (omega (arith, c.loop-name-test.false)) in
    subst (λ ns. HasPipeLinks c.loop-name.forest c.loop-name.trees
    (filter (λ (q : Pipe). not (has ns q.name)) items)) whole (c.loop-name.invariant.2 has_links)

pub without_name-requires-clause-trees : goal.without_name-requires-clause-trees
without_name-requires-clause-trees c = c.loop-name.invariant.1

pub returns-clause-trees : goal.returns-clause-trees
returns-clause-trees c = c.loop-name.invariant.1
