-- The line of a reduction tells the reduction, and the line of an end the end.
use Rattle.std.proofs.Common.{◌≡◌, ℕ, ◌<◌, ◌^◌, codes, List, [], ◌∷◌, ◌++◌, map, refl, sym, ap, ◌∙◌, arith}
use Rattle.std.specs.Prelude.{Option, Some, None}
use Rattle.std.specs.Fmt.{decimal}
use Rattle.cp_base.specs.declared.shape.Branch.{Branch}
use Rattle.cp_base.specs.declared.shape.Shape.{Shape}
use Rattle.cp_base.specs.Shapes.{leaves}
use Rattle.cp_board.specs.declared.steps.Step.{Step}
use Rattle.cp_board.specs.declared.steps.Step.TheVariants.{Small, FreePole, FusePoles, Toroidal, Join, Propagate}
use Rattle.cp_board.specs.declared.steps.Reason.{Reason}
use Rattle.cp_board.specs.declared.steps.Reason.TheVariants.{NotPlanar, CyclesDiffer, BlocksCross, Conflict}
use Rattle.cp_trace.specs.Faults.{AreSmall, IsToldStep}
use Rattle.cp_trace.specs.Reading.{words}
use Rattle.cp_trace.specs.StepWords.{key_of_step, key_word, reason_words, step_args}
use Rattle.cp_trace.specs.Texts.{body_text, end_line, reason_line, step_line}
use Rattle.cp_trace.specs.Traces.{reason_numbers}
use Rattle.cp_trace.proofs.BodySame.{body_same}
use Rattle.cp_trace.proofs.EndLines.{words-reason_line}
use Rattle.cp_trace.proofs.InstanceLines.{head_byte}
use Rattle.cp_trace.proofs.LineValues.{list_same, number_same}
use Rattle.cp_trace.proofs.StepLines.{key_same, words-step_line}
use Rattle.cp_trace.proofs.WordLemmas.{words-injective}

-- branches of one text are the same
branch_same : (b d : Branch) → AreSmall (leaves b) → AreSmall (leaves d) → body_text b ≡ body_text d → b ≡ d
branch_same b d sb sd h = (body_same b d [] [] sb sd tt tt (ap (λ t. t ++ []) h)).0

-- numbers that are spelled alike are the same
numbers_same : (ms ns : List ℕ) → AreSmall ms → AreSmall ns → map decimal ms ≡ map decimal ns → ms ≡ ns
numbers_same = list_same decimal (λ n. n < 2 ^ 63) number_same

-- shapes that are told alike are the same
shape_same : (s t : Shape) → s.root ≡ t.root → s.body ≡ t.body → s ≡ t
shape_same s t root body =
    let mid : Shape = record { root = t.root; body = s.body } in
    let one : s ≡ mid = ap (λ (n : ℕ). let x : Shape = record { root = n; body = s.body } in x) root in
    let two : mid ≡ t = ap (λ (b : Branch). let x : Shape = record { root = t.root; body = b } in x) body in
    one ∙ two

-- reductions of one kind with the same words are the same
args_same : (s t : Step) → key_of_step s ≡ key_of_step t → IsToldStep s → IsToldStep t → step_args s ≡ step_args t
    → s ≡ t
args_same (Small p) (Small q) k ts tt h =
    let e : p ∷ [] ≡ q ∷ [] = numbers_same (p ∷ []) (q ∷ []) ts tt h in cc
args_same (FreePole p e l) (FreePole q f m) k ts tt h =
    let same : p ∷ e ∷ l ∷ [] ≡ q ∷ f ∷ m ∷ [] = numbers_same (p ∷ e ∷ l ∷ []) (q ∷ f ∷ m ∷ []) ts tt h in cc
args_same (FusePoles p e l) (FusePoles q f m) k ts tt h =
    let same : p ∷ e ∷ l ∷ [] ≡ q ∷ f ∷ m ∷ [] = numbers_same (p ∷ e ∷ l ∷ []) (q ∷ f ∷ m ∷ []) ts tt h in cc
args_same (Toroidal p) (Toroidal q) k ts tt h =
    let e : p ∷ [] ≡ q ∷ [] = numbers_same (p ∷ []) (q ∷ []) ts tt h in cc
args_same (Join p) (Join q) k ts tt h =
    let e : p ∷ [] ≡ q ∷ [] = numbers_same (p ∷ []) (q ∷ []) ts tt h in cc
args_same (Propagate p e x) (Propagate q f y) k ts tt h =
    let same : words (body_text x.body) ≡ words (body_text y.body) = cc in
    let body : x.body ≡ y.body = branch_same x.body y.body ts.1.1.1 tt.1.1.1
    (words-injective (body_text x.body) (body_text y.body) same) in
    let root : x.root ≡ y.root = number_same x.root y.root ts.1.1.0 tt.1.1.0 cc in
    let pipe : p ≡ q = number_same p q ts.0 tt.0 cc in
    let end : e ≡ f = number_same e f ts.1.0 tt.1.0 cc in
    let shape : x ≡ y = shape_same x y root body in
    cc
args_same s t k ts tt h = absurd cc

-- reductions that are told alike are the same
pub step_same : (s t : Step) → IsToldStep s → IsToldStep t → step_line s ≡ step_line t → s ≡ t
step_same s t ts tt h =
    let all : codes "step" ∷ key_word (key_of_step s) ∷ step_args s
    ≡ codes "step" ∷ key_word (key_of_step t) ∷ step_args t =
    sym (words-step_line s ts) ∙ ap words h ∙ words-step_line t tt in
    args_same s t (key_same (key_of_step s) (key_of_step t) cc) ts tt cc

-- reasons of the same words are the same
reason_same : (r q : Reason) → AreSmall (reason_numbers (Some r)) → AreSmall (reason_numbers (Some q))
    → reason_words r ≡ reason_words q → r ≡ q
reason_same (NotPlanar x) (NotPlanar y) sr sq h = (let e : x ≡ y = number_same x y sr.0 sq.0 cc in cc)
reason_same (CyclesDiffer a b) (CyclesDiffer c d) sr sq h =
    let first : a ≡ c = number_same a c sr.0 sq.0 cc in
    let second : b ≡ d = number_same b d sr.1.0 sq.1.0 cc in
    cc
reason_same (BlocksCross x) (BlocksCross y) sr sq h = (let e : x ≡ y = number_same x y sr.0 sq.0 cc in cc)
reason_same Conflict Conflict sr sq h = refl
reason_same r q sr sq h = absurd cc

-- the line of a reason begins with its letter
head_of_reason : (r : Reason) → head_byte (reason_line r ∷ []) ≡ 102
head_of_reason (NotPlanar edge) = refl
head_of_reason (CyclesDiffer a b) = refl
head_of_reason (BlocksCross vertex) = refl
head_of_reason Conflict = refl

-- ends that are told alike are the same
pub end_same : (r q : Option Reason) → AreSmall (reason_numbers r) → AreSmall (reason_numbers q)
    → end_line r ≡ end_line q → r ≡ q
end_same None None sr sq h = refl
end_same (Some r) (Some q) sr sq h =
    ap (λ x. Some x) (reason_same r q sr sq (sym (words-reason_line r sr) ∙ ap words h ∙ words-reason_line q sq))
end_same None (Some q) sr sq h = absurd (omega (arith, ap (λ l. head_byte (l ∷ [])) h, head_of_reason q))
end_same (Some r) None sr sq h = absurd (omega (arith, ap (λ l. head_byte (l ∷ [])) h, head_of_reason r))
