-- Runs on which the text is tried.
use Rattle.std.specs.Prelude.{◌≡◌, codes, [], ◌∷◌, None, refl}
use Rattle.std.specs.Fmt.{digits}
use Rattle.cp_board.specs.declared.steps.Step.TheVariants.{Small, FreePole, FusePoles, Toroidal, Join}
use Rattle.cp_board.specs.declared.steps.Reason.TheVariants.{NotPlanar, CyclesDiffer, BlocksCross, Conflict}
use Rattle.cp_board.specs.Rows as rows
use Rattle.cp_trace.specs.declared.trace.Trace.{Trace}
use Rattle.cp_trace.specs.Texts.{trace_lines, step_line, reason_line}

-- the worked run
abbrev pub worked : Trace
worked = record {
  first = rows.first;
  steps = Join 0 ∷ Small 1 ∷ Small 3 ∷ Small 2 ∷ Small 4 ∷ [];
  last = rows.last;
  solved = None;
}

-- the lines of the worked run
worked_lines : trace_lines worked ≡
    codes "cplan-trace 1"
    ∷ codes "instance"
    ∷ codes "vertex 0 P"
    ∷ codes "vertex 1 P"
    ∷ codes "vertex 2 P"
    ∷ codes "vertex 3 P"
    ∷ codes "vertex 4 P"
    ∷ codes "vertex 5 P"
    ∷ codes "edge 0 3 5"
    ∷ codes "edge 1 2 0"
    ∷ codes "edge 2 3 5"
    ∷ codes "edge 3 2 0"
    ∷ codes "edge 4 3 5"
    ∷ codes "edge 5 2 1"
    ∷ codes "edge 6 4 5"
    ∷ codes "edge 7 2 0"
    ∷ codes "pipe 0 2 5: 1/0 3/2 5/4 7/6"
    ∷ codes "instance end"
    ∷ codes "step join 0"
    ∷ codes "step small 1"
    ∷ codes "step small 3"
    ∷ codes "step small 2"
    ∷ codes "step small 4"
    ∷ codes "instance"
    ∷ codes "vertex 0 P"
    ∷ codes "vertex 1 P"
    ∷ codes "vertex 3 P"
    ∷ codes "vertex 4 P"
    ∷ codes "vertex 6 Q 0: 1 3 7"
    ∷ codes "vertex 7 P"
    ∷ codes "vertex 8 Q 0: 8 11 9"
    ∷ codes "vertex 9 P"
    ∷ codes "vertex 10 Q 1: 0 2 4"
    ∷ codes "vertex 11 P"
    ∷ codes "vertex 12 Q 1: 8 10 9"
    ∷ codes "vertex 13 P"
    ∷ codes "edge 0 3 10"
    ∷ codes "edge 1 6 0"
    ∷ codes "edge 2 3 10"
    ∷ codes "edge 3 6 0"
    ∷ codes "edge 4 3 10"
    ∷ codes "edge 5 7 1"
    ∷ codes "edge 6 4 11"
    ∷ codes "edge 7 6 0"
    ∷ codes "edge 8 8 12"
    ∷ codes "edge 9 8 12"
    ∷ codes "edge 10 9 12"
    ∷ codes "edge 11 8 13"
    ∷ codes "instance end"
    ∷ codes "solved"
    ∷ codes "end"
    ∷ []
unfolding digits
worked_lines = refl

-- the lines of three reductions
steps : (step_line (FreePole 1 20 3) ≡ codes "step free 1 20 3")
    × (step_line (FusePoles 1 2 3) ≡ codes "step fuse 1 2 3")
    × (step_line (Toroidal 10) ≡ codes "step torus 10")
unfolding digits
steps = (refl, refl, refl)

-- the lines of the four reasons
reasons : (reason_line (NotPlanar 7) ≡ codes "failed not-planar 7")
    × (reason_line (CyclesDiffer 1 3) ≡ codes "failed cycles 1 3")
    × (reason_line (BlocksCross 0) ≡ codes "failed cross 0")
    × (reason_line Conflict ≡ codes "failed conflict")
unfolding digits
reasons = (refl, refl, refl, refl)
