-- Where bytes cease to be a trace: at the first line that may not stand behind the lines before it.
use Rattle.std.specs.Prelude.{◌≡◌, ◌≢◌, ℕ, ◌+◌, ◌≤◌, ◌^◌, ◌<◌, codes, List, [], ◌∷◌, ◌++◌, length, map}
use Rattle.std.specs.List.{AllByRecursion}
use Rattle.std.specs.List.Sorted.{IsStrictlyIncreasing}
use Rattle.cp_board.specs.declared.parts.Kind.{Kind}
use Rattle.cp_board.specs.declared.parts.Kind.TheVariants.{P, Q}
use Rattle.cp_board.specs.declared.parts.Vert.{Vert}
use Rattle.cp_board.specs.declared.parts.EdgeRow.{EdgeRow}
use Rattle.cp_board.specs.declared.parts.Pipe.{Pipe}
use Rattle.cp_board.specs.declared.steps.Step.{Step}
use Rattle.cp_board.specs.Instances.{Synchronized, IsSynchronized, names_of_verts, names_of_edges}
use Rattle.cp_trace.specs.declared.trace.Trace.{Trace}
use Rattle.cp_trace.specs.declared.fault.TraceFault.{TraceFault}
use Rattle.cp_trace.specs.declared.fault.TraceFault.TheVariants.{Bad, Memory}
use Rattle.cp_trace.specs.Texts.{end_line, step_line, instance_lines, trace_lines, text_of}
use Rattle.cp_trace.specs.Traces.{step_numbers, reason_numbers, IsTextOf}

-- a number that can be told
abbrev pub IsNumber : ℕ → Type 0
IsNumber n = n < 2 ^ 63

-- each number can be told
abbrev pub AreSmall : List ℕ → Type 0
AreSmall numbers = AllByRecursion (λ number. number < 2 ^ 63) numbers

-- no item is less than the first
abbrev pub HasLeastFirst : List ℕ → Type 0
HasLeastFirst [] = Unit {0}
HasLeastFirst (first ∷ rest) = AllByRecursion (λ x. first ≤ x) rest

-- what is asked of a kind in the line of its vertex
abbrev pub IsToldKind : Kind → Type 0
IsToldKind P = Unit {0}
IsToldKind (Q cell psi) = IsNumber cell × AreSmall psi × HasLeastFirst psi

-- what is asked of a vertex in its line
pub record IsToldVert (v : Vert) : Type 0 where
  pub name : IsNumber v.name
  pub kind : IsToldKind v.kind

-- what is asked of an edge in its line
pub record IsToldEdge (e : EdgeRow) : Type 0 where
  pub name : IsNumber e.name
  pub a : IsNumber e.a
  pub b : IsNumber e.b

-- both edges of a pair can be told
abbrev pub IsPair : ℕ × ℕ → Type 0
IsPair pair = IsNumber pair.0 × IsNumber pair.1

-- what is asked of the pairs of a pipe in its line
abbrev pub AreToldPairs : List (ℕ × ℕ) → Type 0
AreToldPairs pairs = AllByRecursion IsPair pairs × IsStrictlyIncreasing (map (λ x. x.0) pairs)

-- what is asked of a pipe in its line
pub record IsToldPipe (p : Pipe) : Type 0 where
  pub name : IsNumber p.name
  pub a : IsNumber p.a
  pub b : IsNumber p.b
  pub pairs : AreToldPairs p.pairs

-- the lines of vertices behind each other: each is right, and names rise
pub record AreToldVerts (vs : List Vert) : Type 0 where
  pub rise : IsStrictlyIncreasing (names_of_verts vs)
  pub told : AllByRecursion IsToldVert vs

-- the same for edges
pub record AreToldEdges (es : List EdgeRow) : Type 0 where
  pub rise : IsStrictlyIncreasing (names_of_edges es)
  pub told : AllByRecursion IsToldEdge es

-- the same for pipes
pub record AreToldPipes (ps : List Pipe) : Type 0 where
  pub rise : IsStrictlyIncreasing (map (λ p. p.name) ps)
  pub told : AllByRecursion IsToldPipe ps

-- what is asked of an instance before its last line: each line is right, and names rise
pub record IsToldInstance (i : Synchronized) : Type 0 where
  pub verts : AreToldVerts i.verts
  pub edges : AreToldEdges i.edges
  pub pipes : AreToldPipes i.pipes

-- the numbers of a reduction can be told
abbrev pub IsToldStep : Step → Type 0
IsToldStep step = AreSmall (step_numbers step)

-- a run each of whose lines is right, but whose instances may break the five rules
pub record IsDraft (t : Trace) : Type 0 where
  pub first : IsToldInstance t.first
  pub steps : AllByRecursion IsToldStep t.steps
  pub last : IsToldInstance t.last
  pub reason : AreSmall (reason_numbers t.solved)

-- the lines behind the last instance
abbrev pub lines_behind_last : Trace → List (List ℕ)
lines_behind_last t = end_line t.solved ∷ codes "end" ∷ []

-- the lines behind the first instance
abbrev pub lines_behind_first : Trace → List (List ℕ)
lines_behind_first t = map step_line t.steps ++ (instance_lines t.last ++ lines_behind_last t)

-- the draft begins with these lines, and an instance that they tell to its end keeps the five rules
pub record Begins (t : Trace) (lines : List (List ℕ)) : Type 0 where
  pub draft : IsDraft t
  pub later : List (List ℕ)
  pub front : trace_lines t ≡ lines ++ later
  pub first : length later ≤ length (lines_behind_first t) → IsSynchronized t.first
  pub last : length later ≤ length (lines_behind_last t) → IsSynchronized t.last

-- each of the lines may stand behind those before it
abbrev pub AreAllowed : List (List ℕ) → Type 0
AreAllowed lines = (t : Trace) × Begins t lines

-- no line feed is among the bytes
abbrev pub IsLine : List ℕ → Type 0
IsLine bytes = AllByRecursion (λ byte. byte ≢ 10) bytes

-- the bytes are no trace, and this is the number of their first line that is no whole line or is not allowed
pub record IsFaultAt (bytes : List ℕ) (line : ℕ) : Type 0 where
  pub before : List (List ℕ)
  pub rest : List ℕ
  pub front : bytes ≡ text_of before ++ rest
  pub allowed : AreAllowed before
  pub stops : (next after : List ℕ) → IsLine next → rest ≡ next ++ 10 ∷ after → AreAllowed (before ++ next ∷ []) → ⊥
  pub no_trace : (t : Trace) → IsTextOf bytes t → ⊥
  pub place : line ≡ length before + 1

-- what is said of the line, where the fault is one of the text
abbrev pub IfBad : TraceFault → (ℕ → Type 0) → Type 0
IfBad (Bad line) Fault = Fault line
IfBad Memory Fault = Unit {0}
