-- The text of a run of reductions of an instance of synchronized planarity, line by line: one spelling each.
use Rattle.std.specs.Prelude.{ℕ, codes, List, [], ◌∷◌, ◌++◌, map, Option, Some, None}
use Rattle.std.specs.List.{flat_map, join_with_byte}
use Rattle.std.specs.Fmt.{decimal}
use Rattle.cp_base.specs.declared.shape.Branch.{Branch}
use Rattle.cp_base.specs.declared.shape.Branch.TheOpen.{Branch-F}
use Rattle.cp_base.specs.declared.shape.Branch.TheFolds.{fold-Branch}
use Rattle.cp_board.specs.declared.parts.Kind.{Kind}
use Rattle.cp_board.specs.declared.parts.Kind.TheVariants.{P, Q}
use Rattle.cp_board.specs.declared.parts.Vert.{Vert}
use Rattle.cp_board.specs.declared.parts.EdgeRow.{EdgeRow}
use Rattle.cp_board.specs.declared.parts.Pipe.{Pipe}
use Rattle.cp_board.specs.declared.steps.Step.{Step}
use Rattle.cp_board.specs.declared.steps.Step.TheVariants.{Small, FreePole, FusePoles, Toroidal, Join, Propagate}
use Rattle.cp_board.specs.declared.steps.Reason.{Reason}
use Rattle.cp_board.specs.declared.steps.Reason.TheVariants.{NotPlanar, CyclesDiffer, BlocksCross, Conflict}
use Rattle.cp_board.specs.Instances.{Synchronized}
use Rattle.cp_trace.specs.declared.trace.Trace.{Trace}

-- a number behind a blank
abbrev pub spaced : ℕ → List ℕ
spaced number = 32 ∷ decimal number

-- a key, and numbers, each behind a blank
abbrev pub keyed : List ℕ → List ℕ → List ℕ
keyed key numbers = key ++ flat_map spaced numbers

-- what is asked of the order of a vertex: nothing, or a cell and, behind a colon, the list
abbrev pub kind_text : Kind → List ℕ
kind_text P = codes " P"
kind_text (Q cell psi) = keyed (codes " Q") (cell ∷ []) ++ keyed (codes ":") psi

-- a vertex
abbrev pub vert_line : Vert → List ℕ
vert_line v = keyed (codes "vertex") (v.name ∷ []) ++ kind_text v.kind

-- an edge with its ends
abbrev pub edge_line : EdgeRow → List ℕ
edge_line e = keyed (codes "edge") (e.name ∷ e.a ∷ e.b ∷ [])

-- an edge and its partner behind a blank, with a slash between them
abbrev pub pair_text : ℕ × ℕ → List ℕ
pair_text pair = spaced pair.0 ++ 47 ∷ decimal pair.1

-- a pipe with its ends and, behind a colon, its pairs
abbrev pub pipe_line : Pipe → List ℕ
pipe_line p = keyed (codes "pipe") (p.name ∷ p.a ∷ p.b ∷ []) ++ 58 ∷ flat_map pair_text p.pairs

-- an instance: its vertices, edges and pipes between two lines
abbrev pub instance_lines : Synchronized → List (List ℕ)
instance_lines i =
    codes "instance" ∷ map vert_line i.verts ++ map edge_line i.edges ++ map pipe_line i.pipes
    ++ codes "instance end" ∷ []

-- the part of a shape: an edge, or a letter and the kids in brackets, with one blank between two
abbrev pub body_step : Branch-F (List ℕ) → List ℕ
body_step (Branch-F.Leaf edge) = decimal edge
body_step (Branch-F.P kids) = codes "P[" ++ join_with_byte 32 kids ++ codes "]"
body_step (Branch-F.Q kids) = codes "Q[" ++ join_with_byte 32 kids ++ codes "]"

unfoldable pub body_text : Branch → List ℕ
body_text = fold-Branch (List ℕ) body_step

-- a reduction
abbrev pub step_line : Step → List ℕ
step_line (Small pipe) = keyed (codes "step small") (pipe ∷ [])
step_line (FreePole pipe end pole) = keyed (codes "step free") (pipe ∷ end ∷ pole ∷ [])
step_line (FusePoles pipe end pole) = keyed (codes "step fuse") (pipe ∷ end ∷ pole ∷ [])
step_line (Toroidal pipe) = keyed (codes "step torus") (pipe ∷ [])
step_line (Join pipe) = keyed (codes "step join") (pipe ∷ [])
step_line (Propagate pipe end shape) =
    keyed (codes "step tree") (pipe ∷ end ∷ shape.root ∷ []) ++ 32 ∷ body_text shape.body

-- what is to blame where there is no solution
abbrev pub reason_line : Reason → List ℕ
reason_line (NotPlanar edge) = keyed (codes "failed not-planar") (edge ∷ [])
reason_line (CyclesDiffer a b) = keyed (codes "failed cycles") (a ∷ b ∷ [])
reason_line (BlocksCross vertex) = keyed (codes "failed cross") (vertex ∷ [])
reason_line Conflict = codes "failed conflict"

-- how the run ended: there is no reason where it solved the instance
abbrev pub end_line : Option Reason → List ℕ
end_line None = codes "solved"
end_line (Some reason) = reason_line reason

-- the lines of a run, without the line feeds that end them
abbrev pub trace_lines : Trace → List (List ℕ)
trace_lines t =
    codes "cplan-trace 1" ∷ instance_lines t.first ++ map step_line t.steps ++ instance_lines t.last
    ++ end_line t.solved ∷ codes "end" ∷ []

-- each line, ended by a line feed
abbrev pub text_of : List (List ℕ) → List ℕ
text_of lines = flat_map (λ line. line ++ 10 ∷ []) lines

-- the text of a run
abbrev pub trace_text : Trace → List ℕ
trace_text t = text_of (trace_lines t)
