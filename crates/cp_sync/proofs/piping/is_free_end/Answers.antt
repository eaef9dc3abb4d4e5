use Rattle.std.proofs.Common.{ap, ◌∙◌, slice_index_or, arith}
use Rattle.std.specs.Prelude.{None, not, is_some}
use Rattle.std.proofs.lemmas.Bool.{both_ways}
use Rattle.std.proofs.lemmas.List.{get_or_default}
use Rattle.cp_board.specs.declared.parts.Kind.TheVariants.{P}
use Rattle.cp_board.specs.declared.parts.Vert.{Vert}
use Rattle.cp_sync.proofs.PipeTables.{free_facts}
use Rattle.cp_sync.proofs.piping.is_free_end.Goals as goal

pub returns-then-place-verts-clause-no : goal.returns-then-place-verts-clause-no
returns-then-place-verts-clause-no c = λ f free.
    let facts = free_facts c.args.verts.now c.args.piped.now c.args.v c.lower_place-place.result c.requires.rising c.lower_place-place.ensures free in
    omega (arith, facts.0, c.if-place-verts.true)

pub returns-then-verts-place-clause-no : goal.returns-then-verts-place-clause-no
returns-then-verts-place-clause-no c = λ f free.
    let facts = free_facts c.args.verts.now c.args.piped.now c.args.v c.lower_place-place.result c.requires.rising c.lower_place-place.ensures free in
    c.if-verts-place.true
    (ap (λ (x : Vert). x.name) (get_or_default c.args.verts.now c.lower_place-place.result c.index-verts-place.result record { name = 0; kind = P } facts.0)
    ∙ facts.1)

pub returns-in-P-clause-no : goal.returns-in-P-clause-no
returns-in-P-clause-no c = λ f free.
    let facts = free_facts c.args.verts.now c.args.piped.now c.args.v c.lower_place-place.result c.requires.rising c.lower_place-place.ensures free in
    both_ways (is_some (slice_index_or c.args.piped.now c.lower_place-place.result None)) (ap is_some facts.3) (c.is_none.ensures ∙ ap not f)

pub returns-in-Q-clause-no : goal.returns-in-Q-clause-no
returns-in-Q-clause-no c = λ f free.
    let facts = free_facts c.args.verts.now c.args.piped.now c.args.v c.lower_place-place.result c.requires.rising c.lower_place-place.ensures free in
    let here = ap (λ (x : Vert). x.kind) (get_or_default c.args.verts.now c.lower_place-place.result c.index-verts-place-2.result record { name = 0; kind = P } facts.0) in
    cc (here, facts.2, c.in-Q.is)
