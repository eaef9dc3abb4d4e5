use Rattle.std.proofs.Common.{◌≡◌, ◌&&◌, not, eqb, sym, subst}
use Rattle.std.specs.Prelude.{filter, Some}
use Rattle.std.proofs.lemmas.Result.{IfOk-weaker}
use Rattle.cp_board.specs.declared.parts.Pipe.{Pipe}
use Rattle.cp_board.proofs.ListTests.{IsStrictlyIncreasing-from_test}
use Rattle.cp_store.specs.Exchanges.{under, items_of}
use Rattle.cp_store.specs.PipeLinks.{HasPipeLinks}
use Rattle.cp_store.proofs.Tables.{table-rises}
use Rattle.cp_store.proofs.PipeTests.{pipe_name, HasPipeLinks-none, under-name}
use Rattle.cp_store.proofs.pipe_links.without_name.Goals as goal

pub returns-in-None-clause-links : goal.returns-in-None-clause-links
returns-in-None-clause-links c kept has =
    HasPipeLinks-none c.args.forest.now c.args.roots kept (items_of c.args.pipes.now.entries.items) c.args.name
    (table-rises pipe_name c.args.pipes.now.entries.items c.requires.table) c.in-None.ensures has

pub returns-in-Some-clause-links : goal.returns-in-Some-clause-links
returns-in-Some-clause-links c =
    let items = items_of c.args.pipes.now.entries.items in
    let p = c.in-Some.p.now in
    let found : under pipe_name c.args.name items ≡ Some p = c.in-Some.ensures in
    let same = under-name c.args.name items p found in
    IfOk-weaker c.without_pipe.result _ _
    (λ new go kept has.
    subst (λ n. HasPipeLinks c.without_pipe.new.forest new
    (filter (λ (q : Pipe). kept q.name && not (eqb q.name n)) items)) same
    (go kept items
    (IsStrictlyIncreasing-from_test _ (table-rises pipe_name c.args.pipes.now.entries.items c.requires.table))
    (subst (λ n. under pipe_name n items ≡ Some p) (sym same) found) has))
    c.without_pipe.ensures.links
