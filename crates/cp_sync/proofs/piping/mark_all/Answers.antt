use Rattle.std.proofs.Common.{[], sym, ap, subst, ◌∙◌}
use Rattle.std.proofs.lemmas.List.{get_or_default}
use Rattle.cp_board.specs.declared.parts.Pipe.{Pipe}
use Rattle.cp_board.specs.Instances.{Synchronized}
use Rattle.cp_board.specs.Faults.{Keeps, PipeEnds, PipeAt}
use Rattle.cp_sync.specs.Tables.{IsFreePipe}
use Rattle.cp_sync.proofs.Passes.{AllBelow-more}
use Rattle.cp_sync.proofs.PipeTables.{ArePiped-more, PipeEnds-from, PipeEnds-to, vertex_live}
use Rattle.cp_sync.proofs.piping.mark_all.Goals as goal

pub returns-then-not-is_free_pipe-clause-first : goal.returns-then-not-is_free_pipe-clause-first
returns-then-not-is_free_pipe-clause-first c =
    let i : Synchronized = record { verts = c.args.verts.now; edges = []; pipes = c.args.pipes.now } in
    let row = c.index-pipes-k.is ∙ get_or_default c.args.pipes.now c.loop-k.k c.index-pipes-k.result record { name = 0; a = 0; b = 0; pairs = [] } c.loop-k-test.true in
    record {
      within = c.loop-k-test.true;
      fails = λ keep. c.is_free_pipe.ensures.no c.if-not-is_free_pipe.true
          (subst (λ xs. IsFreePipe c.args.verts.now xs c.index-pipes-k.result) (sym c.as_slice.ensures.value)
          (subst (IsFreePipe c.args.verts.now c.loop-k.piped.items) (sym row)
          (PipeEnds-to i c.loop-k.piped.items c.loop-k.k c.requires.rising c.loop-k.invariant.piped keep)));
      before = c.loop-k.invariant.kept;
    }

pub mark-requires-clause-live : goal.mark-requires-clause-live
mark-requires-clause-live c =
    let free = c.is_free_pipe.ensures.yes c.if-not-is_free_pipe.false in
    let same = c.index-pipes-k.is ∙ get_or_default c.args.pipes.now c.loop-k.k c.index-pipes-k.result c.index-pipes-k-in-loop-k.result c.loop-k-test.true ∙ sym c.index-pipes-k-in-loop-k.is in (
      vertex_live c.args.verts.now free.0.place c.index-pipes-k-in-loop-k.result.a free.0.within (free.0.named ∙ ap (λ (p : Pipe). p.a) same),
      vertex_live c.args.verts.now free.1.place c.index-pipes-k-in-loop-k.result.b free.1.within (free.1.named ∙ ap (λ (p : Pipe). p.b) same),
    )

pub loop-k-preserved : goal.loop-k-preserved
loop-k-preserved c =
    let i : Synchronized = record { verts = c.args.verts.now; edges = []; pipes = c.args.pipes.now } in
    let p = c.index-pipes-k-in-loop-k.result in
    let here = c.index-pipes-k.is ∙ get_or_default c.args.pipes.now c.loop-k.k c.index-pipes-k.result p c.loop-k-test.true ∙ sym c.index-pipes-k-in-loop-k.is in
    let row = c.index-pipes-k.is ∙ get_or_default c.args.pipes.now c.loop-k.k c.index-pipes-k.result record { name = 0; a = 0; b = 0; pairs = [] } c.loop-k-test.true in
    let free = subst (λ xs. IsFreePipe c.args.verts.now xs c.index-pipes-k.result) c.as_slice.ensures.value
    (c.is_free_pipe.ensures.yes c.if-not-is_free_pipe.false) in
    record {
      piped = ArePiped-more c.args.verts.now c.args.pipes.now c.loop-k.k p c.loop-k.piped.items c.mark.new.piped.items c.loop-k-test.true
          c.index-pipes-k-in-loop-k.is c.requires.rising c.loop-k.invariant.piped
          (subst (IsFreePipe c.args.verts.now c.loop-k.piped.items) here free)
          c.mark.ensures;
      kept = AllBelow-more (λ k. Keeps i PipeEnds (PipeAt k)) c.loop-k.k c.loop-k.invariant.kept
          (PipeEnds-from i c.loop-k.piped.items c.loop-k.k c.requires.rising c.loop-k.invariant.piped
          (subst (IsFreePipe c.args.verts.now c.loop-k.piped.items) row free));
    }
