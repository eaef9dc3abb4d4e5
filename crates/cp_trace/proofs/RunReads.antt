-- Where bytes cease to be a run.
use Rattle.std.proofs.Common.{◌≡◌, ℕ, codes, List, [], ◌∷◌, ◌++◌, map, refl, sym, ap, ◌∙◌, arith, append_assoc}
use Rattle.std.specs.List.{AllByRecursion}
use Rattle.cp_board.specs.declared.steps.Step.{Step}
use Rattle.cp_board.specs.Instances.{Synchronized}
use Rattle.cp_trace.specs.declared.trace.Trace.{Trace}
use Rattle.cp_trace.specs.Faults.{IsDraft, IsLine, lines_behind_first, lines_behind_last}
use Rattle.cp_trace.specs.Texts.{instance_lines, step_line, text_of, trace_lines}
use Rattle.cp_trace.proofs.CutLemmas.{cut_unique}
use Rattle.cp_trace.proofs.InstanceLines.{Same, head_byte, lines_after}
use Rattle.cp_trace.proofs.RunLines.{head_of_step, instance_same, steps_compare, trace_grouped}

-- no line of a reduction is left where an instance comes
pub no_step_left : (more : List Step) (i : Synchronized) (x y : List (List ℕ))
    → map step_line more ++ x ≡ instance_lines i ++ y → (more ≡ []) × (x ≡ instance_lines i ++ y)
no_step_left [] i x y h = (refl, h)
no_step_left (m ∷ more) i x y h =
    absurd (let e : Same 115 105 = sym (head_of_step m (map step_line more ++ x)) ∙ ap head_byte h in omega arith)

-- a draft whose lines begin with those of another has no lines more
pub prefix_free : (t s : Trace) (y : List (List ℕ)) → IsDraft t → IsDraft s → trace_lines t ≡ trace_lines s ++ y
    → y ≡ []
prefix_free t s y dt ds h =
    let whole : codes "cplan-trace 1" ∷ (instance_lines t.first ++ lines_behind_first t)
    ≡ codes "cplan-trace 1" ∷ (instance_lines s.first ++ (lines_behind_first s ++ y)) =
    sym (trace_grouped t) ∙ h ∙ ap (λ ls. ls ++ y) (trace_grouped s)
    ∙ ap (λ ls. codes "cplan-trace 1" ∷ ls) (append_assoc (instance_lines s.first) (lines_behind_first s) y) in
    let first = instance_same t.first s.first (lines_behind_first t) (lines_behind_first s ++ y) dt.first ds.first
    (ap lines_after whole) in
    let behind : lines_behind_first s ++ y
    ≡ map step_line s.steps ++ (instance_lines s.last ++ (lines_behind_last s ++ y)) =
    append_assoc (map step_line s.steps) (instance_lines s.last ++ lines_behind_last s) y
    ∙ ap (λ ls. map step_line s.steps ++ ls) (append_assoc (instance_lines s.last) (lines_behind_last s) y) in
    let steps = steps_compare t.steps s.steps (instance_lines t.last ++ lines_behind_last t)
    (instance_lines s.last ++ (lines_behind_last s ++ y)) dt.steps
    (λ e. let f : Same 105 115 = e in omega arith) (first.1 ∙ behind) in
    let none = no_step_left steps.0 s.last (instance_lines t.last ++ lines_behind_last t) (lines_behind_last s ++ y)
    steps.2 in
    let last = instance_same t.last s.last (lines_behind_last t) (lines_behind_last s ++ y) dt.last ds.last none.1 in
    sym (ap (λ ls. lines_after (lines_after ls)) last.1)

-- a text of lines that begins with that of others has further lines
pub text_compare : (xs ys : List (List ℕ)) (rest : List ℕ) → AllByRecursion IsLine xs → AllByRecursion IsLine ys
    → text_of xs ≡ text_of ys ++ rest → (more : List (List ℕ)) × (xs ≡ ys ++ more) × (rest ≡ text_of more)
text_compare xs [] rest lx ly h = (xs, refl, sym h)
text_compare [] (y ∷ ys) rest lx ly h =
    absurd (none y (text_of ys) h)
  where
    none : (line after : List ℕ) → [] ≡ ((line ++ 10 ∷ []) ++ after) ++ rest → ⊥
    none [] after e = absurd cc
    none (b ∷ bs) after e = absurd cc
text_compare (x ∷ xs) (y ∷ ys) rest lx ly h =
    let cut : x ++ 10 ∷ text_of xs ≡ y ++ 10 ∷ (text_of ys ++ rest) =
    sym (append_assoc x (10 ∷ []) (text_of xs)) ∙ h ∙ append_assoc (y ++ 10 ∷ []) (text_of ys) rest
    ∙ append_assoc y (10 ∷ []) (text_of ys ++ rest) in
    let both = cut_unique 10 x y (text_of xs) (text_of ys ++ rest) lx.0 ly.0 cut in
    let next = text_compare xs ys rest lx.1 ly.1 both.1 in
    (next.0, ap (λ z. z ∷ xs) both.0 ∙ ap (λ zs. y ∷ zs) next.1, next.2)
