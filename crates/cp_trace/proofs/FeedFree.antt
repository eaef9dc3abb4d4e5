-- No line feed stands in the line of a reduction.
use Rattle.std.proofs.Common.{◌≡◌, ℕ, true, ltb, codes, List, [], ◌∷◌, map, refl, sym, subst, arith, append_assoc}
use Rattle.std.specs.List.{AllByRecursion, flat_map, join_with_byte, list_all}
use Rattle.std.proofs.lemmas.Bool.{and_parts, ltb-true}
use Rattle.cp_base.specs.declared.shape.Branch.{Branch}
use Rattle.cp_base.specs.Shapes.{leaves}
use Rattle.cp_board.specs.declared.steps.Step.{Step}
use Rattle.cp_board.specs.declared.steps.Step.TheVariants.{Small, FreePole, FusePoles, Toroidal, Join, Propagate}
use Rattle.cp_trace.specs.Bodies.{kids_text}
use Rattle.cp_trace.specs.Faults.{AreSmall, IsToldStep}
use Rattle.cp_trace.specs.Reading.{Lacks}
use Rattle.cp_trace.specs.Texts.{body_text, keyed, spaced, step_line}
use Rattle.cp_trace.proofs.BodyLemmas.{body_text-Leaf, body_text-P, body_text-Q}
use Rattle.cp_trace.proofs.BodySame.{AreSmallKids, branch_induction, small_P, small_Q, small_leaf}
use Rattle.cp_trace.proofs.CutLemmas.{lacks-append}
use Rattle.cp_trace.proofs.LineWords.{number_free}

-- no line feed stands among bytes that are greater
pub key_free : (word : List ℕ) → list_all (λ b. ltb 10 b) word ≡ true → Lacks 10 word
key_free [] h = tt
key_free (x ∷ xs) h =
    let both = and_parts (ltb 10 x) (list_all (λ b. ltb 10 b) xs) h in
    ((λ e. omega (arith, e, ltb-true 10 x both.0)), key_free xs both.1)

-- nor in numbers behind blanks
numbers_free : (ns : List ℕ) → AreSmall ns → Lacks 10 (flat_map spaced ns)
numbers_free [] small = tt
numbers_free (n ∷ ns) small =
    lacks-append 10 (spaced n) (flat_map spaced ns) ((λ e. omega (arith, e)), number_free 10 (omega arith) n small.0)
    (numbers_free ns small.1)

-- nor behind a key
pub keyed_free : (key ns : List ℕ) → list_all (λ b. ltb 10 b) key ≡ true → AreSmall ns → Lacks 10 (keyed key ns)
keyed_free key ns h small = lacks-append 10 key (flat_map spaced ns) (key_free key h) (numbers_free ns small)

-- nor in the text of a branch
abbrev IsFree : Branch → Type 0
IsFree b = AreSmall (leaves b) → Lacks 10 (body_text b)

-- where none stands in the texts of kids none stands in their row
kids_free : (kids : List Branch) → AllByRecursion IsFree kids → AreSmallKids kids → Lacks 10 (kids_text kids)
kids_free [] free small = ((λ e. omega (arith, e)), tt)
kids_free (k ∷ []) free small =
    lacks-append 10 (body_text k) (93 ∷ []) (free.0 small.0) ((λ e. omega (arith, e)), tt)
kids_free (k ∷ l ∷ kids) free small =
    let row : List ℕ = join_with_byte 32 (map body_text (l ∷ kids)) in
    subst (Lacks 10) (sym (append_assoc (body_text k) (32 ∷ row) (93 ∷ [])))
    (lacks-append 10 (body_text k) (32 ∷ kids_text (l ∷ kids)) (free.0 small.0)
    ((λ e. omega (arith, e)), kids_free (l ∷ kids) free.1 small.1))

-- no line feed stands in the text of a branch
body_free : (b : Branch) → IsFree b
body_free = branch_induction IsFree
    (λ x small. subst (Lacks 10) (sym (body_text-Leaf x)) (number_free 10 (omega arith) x (small_leaf x small)))
    (λ kids free small. subst (Lacks 10) (sym (body_text-P kids))
    ((λ e. omega (arith, e)), ((λ e. omega (arith, e)), kids_free kids free (small_P kids small))))
    (λ kids free small. subst (Lacks 10) (sym (body_text-Q kids))
    ((λ e. omega (arith, e)), ((λ e. omega (arith, e)), kids_free kids free (small_Q kids small))))

-- nor in the line of a reduction
pub step_line_free : (s : Step) → IsToldStep s → Lacks 10 (step_line s)
step_line_free (Small pipe) told = keyed_free (codes "step small") (pipe ∷ []) refl told
step_line_free (FreePole pipe end pole) told = keyed_free (codes "step free") (pipe ∷ end ∷ pole ∷ []) refl told
step_line_free (FusePoles pipe end pole) told = keyed_free (codes "step fuse") (pipe ∷ end ∷ pole ∷ []) refl told
step_line_free (Toroidal pipe) told = keyed_free (codes "step torus") (pipe ∷ []) refl told
step_line_free (Join pipe) told = keyed_free (codes "step join") (pipe ∷ []) refl told
step_line_free (Propagate pipe end shape) told =
    lacks-append 10 (keyed (codes "step tree") (pipe ∷ end ∷ shape.root ∷ [])) (32 ∷ body_text shape.body)
    (keyed_free (codes "step tree") (pipe ∷ end ∷ shape.root ∷ []) refl (told.0, (told.1.0, (told.1.1.0, tt))))
    ((λ e. omega (arith, e)), body_free shape.body told.1.1.1)
