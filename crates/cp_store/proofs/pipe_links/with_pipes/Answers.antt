use Rattle.std.proofs.Common.{◌≡◌, ◌++◌, ◌∷◌, [], take, sym, ap, ◌∙◌, subst, arith}
use Rattle.std.proofs.lemmas.List.{take_all, take_more, append_assoc}
use Rattle.cp_store.specs.PipeLinks.{HasPipeLinks}
use Rattle.cp_store.proofs.Grown.{Keeps-next}
use Rattle.cp_store.proofs.pipe_links.with_pipes.Goals as goal

pub loop-p-preserved : goal.loop-p-preserved
loop-p-preserved c =
    let all = c.args.pipes.now in
    let k = c.loop-p.p-index in
    let held = c.loop-p.invariant in
    let out = c.in_ok-trees.ensures in
    let p = c.p-item.result in (
      Keeps-next c.args.forest.now c.loop-p.forest c.with_pipe.new.forest held.0 out.keeps,
      out.trees,
      λ ps has. subst (HasPipeLinks c.with_pipe.new.forest c.in_ok-trees.trees)
          (append_assoc ps (take k all) (p ∷ [])
          ∙ ap (λ xs. ps ++ xs) (ap (λ x. take k all ++ x ∷ []) c.p-item.is
          ∙ sym (take_more all k p c.loop-p-test.true)))
          (out.links (ps ++ take k all) (held.2 ps has)),
    )

pub returns-clause-links : goal.returns-clause-links
returns-clause-links c ps has =
    let all = c.args.pipes.now in
    let whole : take c.loop-p.p-index all ≡ all = take_all c.loop-p.p-index all (omega (arith, c.loop-p-test.false)) in
    subst (λ xs. HasPipeLinks c.loop-p.forest c.loop-p.trees (ps ++ xs)) whole (c.loop-p.invariant.2 ps has)

pub with_pipe-requires : goal.with_pipe-requires
with_pipe-requires c = c.loop-p.invariant.1

pub returns-clause-trees : goal.returns-clause-trees
returns-clause-trees c = c.loop-p.invariant.1
