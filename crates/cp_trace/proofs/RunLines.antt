-- The lines of a run: which line may stand behind some of them.
use Rattle.std.proofs.Common.{◌≡◌, ◌≢◌, ℕ, codes, List, [], ◌∷◌, ◌++◌, map, refl, sym, ap, ◌∙◌, append_assoc}
use Rattle.std.specs.List.{AllByRecursion}
use Rattle.std.proofs.lemmas.List.{append-nil}
use Rattle.cp_board.specs.declared.steps.Step.{Step}
use Rattle.cp_board.specs.declared.steps.Step.TheVariants.{Small, FreePole, FusePoles, Toroidal, Join, Propagate}
use Rattle.cp_board.specs.Instances.{Synchronized}
use Rattle.cp_trace.specs.declared.trace.Trace.{Trace}
use Rattle.cp_trace.specs.Faults.{IsToldEdge, IsToldInstance, IsToldPipe, IsToldStep, IsToldVert, lines_behind_first, lines_behind_last}
use Rattle.cp_trace.specs.Texts.{edge_line, instance_lines, pipe_line, step_line, trace_lines, vert_line}
use Rattle.cp_trace.proofs.InstanceLines.{edge_rows, edges_not_vert, end_lines, end_not_pipe, grouped_lines, head_byte, instance_with, begun_lines, lines_after, pipe_rows, pipes_not_edge, rows_compare}
use Rattle.cp_trace.proofs.LineValues.{edge_same, pipe_same, vert_same}

-- the line of a reduction begins with its letter
pub head_of_step : (s : Step) (lines : List (List ℕ)) → head_byte (step_line s ∷ lines) ≡ 115
head_of_step (Small pipe) lines = refl
head_of_step (FreePole pipe end pole) lines = refl
head_of_step (FusePoles pipe end pole) lines = refl
head_of_step (Toroidal pipe) lines = refl
head_of_step (Join pipe) lines = refl
head_of_step (Propagate pipe end shape) lines = refl

-- two rows of lines of reductions, of which the first one ends: what is left of it stands behind the second
pub steps_compare : (xs ys : List Step) (x y : List (List ℕ)) → AllByRecursion IsToldStep xs → head_byte x ≢ 115
    → map step_line xs ++ x ≡ map step_line ys ++ y
    → (more : List Step) × AllByRecursion IsToldStep more × (map step_line more ++ x ≡ y)
steps_compare xs [] x y told ends h = (xs, told, h)
steps_compare [] (b ∷ ys) x y told ends h = absurd (ends (ap head_byte h ∙ head_of_step b (map step_line ys ++ y)))
steps_compare (a ∷ xs) (b ∷ ys) x y told ends h =
    let tails : map step_line xs ++ x ≡ map step_line ys ++ y = cc in
    steps_compare xs ys x y told.1 ends tails

-- a row that goes on with other lines has no line more
nothing_more : {A : Type 0} (spell : A → List ℕ) (byte : ℕ) → ((x : A) (lines : List (List ℕ))
    → head_byte (spell x ∷ lines) ≡ byte)
    → (more : List A) (x y : List (List ℕ)) → head_byte y ≢ byte → map spell more ++ x ≡ y → (more ≡ []) × (x ≡ y)
nothing_more spell byte head [] x y ends h = (refl, h)
nothing_more spell byte head (m ∷ more) x y ends h =
    absurd (ends (ap head_byte (sym h) ∙ head m (map spell more ++ x)))

-- where both rows end they are the same
pub rows_same : {A : Type 0} (spell : A → List ℕ) (Told : A → Type 0) (byte : ℕ)
    → ((x : A) (lines : List (List ℕ)) → head_byte (spell x ∷ lines) ≡ byte)
    → ((x y : A) → Told x → Told y → spell x ≡ spell y → x ≡ y)
    → (xs ys : List A) (x y : List (List ℕ)) → AllByRecursion Told xs → AllByRecursion Told ys → head_byte x ≢ byte
    → head_byte y ≢ byte → map spell xs ++ x ≡ map spell ys ++ y → (xs ≡ ys) × (x ≡ y)
rows_same spell Told byte head same xs ys x y tx ty ends ends_too h =
    let met = rows_compare spell Told byte head same xs ys x y tx ty ends h in
    let none = nothing_more spell byte head met.0 x y ends_too met.2 in
    (met.1 ∙ ap (λ zs. ys ++ zs) none.0 ∙ append-nil ys, none.1)

-- the lines of an instance tell it, and where they end
pub instance_same : (i j : Synchronized) (x y : List (List ℕ)) → IsToldInstance i → IsToldInstance j
    → instance_lines i ++ x ≡ instance_lines j ++ y → (i ≡ j) × (x ≡ y)
instance_same i j x y ti tj h =
    let whole : codes "instance" ∷ (map vert_line i.verts ++ edge_rows i.edges i.pipes (end_lines x))
    ≡ codes "instance" ∷ (map vert_line j.verts ++ edge_rows j.edges j.pipes (end_lines y)) =
    sym (append_assoc (begun_lines i) (codes "instance end" ∷ []) x ∙ grouped_lines i (end_lines x)) ∙ h
    ∙ (append_assoc (begun_lines j) (codes "instance end" ∷ []) y ∙ grouped_lines j (end_lines y)) in
    let v = rows_same vert_line IsToldVert 118 (λ z lines. refl) vert_same i.verts j.verts
    (edge_rows i.edges i.pipes (end_lines x)) (edge_rows j.edges j.pipes (end_lines y)) ti.verts.told tj.verts.told
    (edges_not_vert i.edges i.pipes x) (edges_not_vert j.edges j.pipes y) (ap lines_after whole) in
    let e = rows_same edge_line IsToldEdge 101 (λ z lines. refl) edge_same i.edges j.edges
    (pipe_rows i.pipes (end_lines x)) (pipe_rows j.pipes (end_lines y)) ti.edges.told tj.edges.told
    (pipes_not_edge i.pipes x) (pipes_not_edge j.pipes y) v.1 in
    let p = rows_same pipe_line IsToldPipe 112 (λ z lines. refl) pipe_same i.pipes j.pipes
    (end_lines x) (end_lines y) ti.pipes.told tj.pipes.told (end_not_pipe x) (end_not_pipe y) e.1 in
    let one : i ≡ instance_with j.verts i.edges i.pipes = ap (λ zs. instance_with zs i.edges i.pipes) v.0 in
    let two : instance_with j.verts i.edges i.pipes ≡ instance_with j.verts j.edges i.pipes =
    ap (λ zs. instance_with j.verts zs i.pipes) e.0 in
    let three : instance_with j.verts j.edges i.pipes ≡ j = ap (λ zs. instance_with j.verts j.edges zs) p.0 in
    (one ∙ two ∙ three, ap lines_after p.1)

-- the lines of a run, from the heading on
pub trace_grouped : (t : Trace) → trace_lines t ≡ codes "cplan-trace 1" ∷ (instance_lines t.first ++
    lines_behind_first t)
trace_grouped t =
    let head : List (List ℕ) = codes "cplan-trace 1" ∷ instance_lines t.first in
    append_assoc (head ++ map step_line t.steps) (instance_lines t.last) (lines_behind_last t)
    ∙ append_assoc head (map step_line t.steps) (instance_lines t.last ++ lines_behind_last t)
