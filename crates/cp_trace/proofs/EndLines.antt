-- The lines that tell how a run ended, by their words.
use Rattle.std.proofs.Common.{◌≡◌, ℕ, ◌<◌, ◌^◌, codes, List, [], ◌∷◌, ◌++◌, Option, Some, None, refl, sym, ap, ◌∙◌, subst}
use Rattle.std.specs.Fmt.{decimal}
use Rattle.cp_board.specs.declared.steps.Reason.{Reason}
use Rattle.cp_board.specs.declared.steps.Reason.TheVariants.{NotPlanar, CyclesDiffer, BlocksCross, Conflict}
use Rattle.cp_trace.specs.Faults.{AreSmall}
use Rattle.cp_trace.specs.Reading.{Lacks, words}
use Rattle.cp_trace.specs.StepWords.{reason_words}
use Rattle.cp_trace.specs.Texts.{end_line, reason_line}
use Rattle.cp_trace.specs.Traces.{reason_numbers}
use Rattle.cp_trace.proofs.CutLemmas.{cut_unique, lacks_not}
use Rattle.cp_trace.proofs.FeedFree.{key_free, keyed_free}
use Rattle.cp_trace.proofs.StepLines.{letters_free, two_keys}
use Rattle.cp_trace.proofs.WordLemmas.{words-injective}

-- the words of the line of a reason
pub words-reason_line : (r : Reason) → AreSmall (reason_numbers (Some r)) → words (reason_line r) ≡ reason_words r
words-reason_line (NotPlanar edge) small =
    two_keys (codes "failed") (codes "not-planar") (edge ∷ []) (letters_free (codes "failed") refl)
    (letters_free (codes "not-planar") refl) small
words-reason_line (CyclesDiffer a b) small =
    two_keys (codes "failed") (codes "cycles") (a ∷ b ∷ []) (letters_free (codes "failed") refl)
    (letters_free (codes "cycles") refl) small
words-reason_line (BlocksCross vertex) small =
    two_keys (codes "failed") (codes "cross") (vertex ∷ []) (letters_free (codes "failed") refl)
    (letters_free (codes "cross") refl) small
words-reason_line Conflict small =
    two_keys (codes "failed") (codes "conflict") [] (letters_free (codes "failed") refl)
    (letters_free (codes "conflict") refl) small

-- a line of these words is its line
pub is_reason_line : (r : Reason) (line : List ℕ) → AreSmall (reason_numbers (Some r)) → words line ≡ reason_words r
    → line ≡ reason_line r
is_reason_line r line small h = words-injective line (reason_line r) (h ∙ sym (words-reason_line r small))

-- a line that is none of the four tells no reason
pub no_reason : (line : List ℕ)
    → ((n : ℕ) → n < 2 ^ 63 → words line ≡ codes "failed" ∷ codes "not-planar" ∷ decimal n ∷ [] → ⊥)
    → ((a b : ℕ) → a < 2 ^ 63 → b < 2 ^ 63
    → words line ≡ codes "failed" ∷ codes "cycles" ∷ decimal a ∷ decimal b ∷ [] → ⊥)
    → ((n : ℕ) → n < 2 ^ 63 → words line ≡ codes "failed" ∷ codes "cross" ∷ decimal n ∷ [] → ⊥)
    → (words line ≡ codes "failed" ∷ codes "conflict" ∷ [] → ⊥)
    → (r : Reason) → AreSmall (reason_numbers (Some r)) → line ≡ reason_line r → ⊥
no_reason line planar cycles cross conflict (NotPlanar edge) small h =
    planar edge small.0 (ap words h ∙ words-reason_line (NotPlanar edge) small)
no_reason line planar cycles cross conflict (CyclesDiffer a b) small h =
    cycles a b small.0 small.1.0 (ap words h ∙ words-reason_line (CyclesDiffer a b) small)
no_reason line planar cycles cross conflict (BlocksCross vertex) small h =
    cross vertex small.0 (ap words h ∙ words-reason_line (BlocksCross vertex) small)
no_reason line planar cycles cross conflict Conflict small h = conflict (ap words h ∙ words-reason_line Conflict small)

-- no line feed stands in the line of a reason
pub reason_line_free : (r : Reason) → AreSmall (reason_numbers (Some r)) → Lacks 10 (reason_line r)
reason_line_free (NotPlanar edge) small = keyed_free (codes "failed not-planar") (edge ∷ []) refl small
reason_line_free (CyclesDiffer a b) small = keyed_free (codes "failed cycles") (a ∷ b ∷ []) refl small
reason_line_free (BlocksCross vertex) small = keyed_free (codes "failed cross") (vertex ∷ []) refl small
reason_line_free Conflict small = key_free (codes "failed conflict") refl

-- without a line feed nothing tells how the run ended
pub no_end_left : (bytes : List ℕ) → Lacks 10 bytes → (r : Option Reason) (after : List ℕ)
    → AreSmall (reason_numbers r) → bytes ≡ end_line r ++ 10 ∷ after → ⊥
no_end_left bytes lacks r after small h = lacks_not 10 (end_line r) after (subst (Lacks 10) h lacks)

-- nor does a first line that is another
pub no_end : (bytes line after : List ℕ) → ((later : List ℕ) → bytes ≡ codes "solved" ++ 10 ∷ later → ⊥) → Lacks 10 line
    → bytes ≡ line ++ 10 ∷ after → ((r : Reason) → AreSmall (reason_numbers (Some r)) → line ≡ reason_line r → ⊥)
    → (r : Option Reason) (later : List ℕ) → AreSmall (reason_numbers r) → bytes ≡ end_line r ++ 10 ∷ later → ⊥
no_end bytes line after solved lacks cut none None later small h = solved later h
no_end bytes line after solved lacks cut none (Some r) later small h =
    none r small (cut_unique 10 line (reason_line r) after later lacks (reason_line_free r small) (sym cut ∙ h)).0
