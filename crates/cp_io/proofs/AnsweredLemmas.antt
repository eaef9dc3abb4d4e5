-- What is told of an answer that was written whole, or of which a front was written.
use Rattle.std.proofs.Common.{◌≡◌, ◌≢◌, ℕ, ◌<◌, ◌≤◌, List, [], length, length-append, Option, None, Some, IfSome, ◌⊎◌, inl, inr, ⊎_elim, refl, subst, sym, ap, arith}
use Rattle.std.specs.Io.KnownBytes.{Appends, Consumes, IsAtEnd}
use Rattle.std.proofs.KnownBytes.{Consumes-all}
use Rattle.std.proofs.lemmas.Option.{IfSome_then}
use Rattle.cp_io.specs.Answered.{FailedReading, WroteAnswer, WroteAnswerFront}
use Rattle.cp_io.specs.Causes.{Rose}
use Rattle.cp_io.specs.Streams.{Took, TookFront}

-- what holds of all bytes holds of those that are told
pub IfSome-all : (left : Option (List ℕ)) (P : List ℕ → Type 0) → ((bytes : List ℕ) → P bytes) → IfSome left P
IfSome-all None P all = tt
IfSome-all (Some bytes) P all = all bytes

-- a source that gave too much had too much
pub Took-long : (left new : Option (List ℕ)) (n : ℕ) → Took left new (λ bytes. n < length bytes)
    → IfSome left (λ bytes. n < length bytes)
Took-long None new n took = tt
Took-long (Some xs) None n took = absurd took.1
Took-long (Some xs) (Some ys) n took = omega (arith, took.2, ap length took.1, length-append took.0 ys)

-- what holds of all bytes that were read holds of those that were left
whole_left : (left new : Option (List ℕ)) (bytes : List ℕ) (P : List ℕ → Type 0) → Consumes left new bytes → IsAtEnd new
    → P bytes → IfSome left P
whole_left left new bytes P took over is =
    IfSome_then left (Consumes-all left new bytes [] bytes took over refl) (λ all same. subst P same is)

-- what answers all bytes that were read, as calls hand on the bytes and the text, answers those that were left
pub read_left : {E : Type 0} (told answers : List ℕ → E → List ℕ
    → Type 0) (most : ℕ) (left new : Option (List ℕ)) (bytes seen : List ℕ) (end : E) (text shown : List ℕ)
    → ((b t : List ℕ) → length b ≤ most → told b end t → answers b end t)
    → Consumes left new bytes × IsAtEnd new × (length bytes ≤ most) → seen ≡ bytes → shown ≡ text → told seen end text
    → IfSome left (λ b. answers b end shown)
read_left told answers most left new bytes seen end text shown rule read same written is =
    let handed = subst (λ t. told bytes end t) (sym written) (subst (λ b. told b end text) same is) in
    whole_left left new bytes (λ b. answers b end shown) read.0 read.1 (rule bytes shown read.2 handed)

-- the text of an answer, written whole
pub wrote : {E : Type 0} (answers : List ℕ → E → List ℕ
    → Type 0) (left old new : Option (List ℕ)) (end failed shown : E) (text : List ℕ)
    → (shown ≡ end) ⊎ (shown ≡ failed) → (shown ≢ failed → Appends old new text)
    → IfSome left (λ bytes. answers bytes end text)
    → shown ≢ failed → WroteAnswer answers left old new shown
wrote answers left old new end failed shown text cases whole is went =
    let same : shown ≡ end = ⊎_elim (λ e. e) (λ e. absurd (went e)) cases in
    (text, subst (λ e. IfSome left (λ bytes. answers bytes e text)) (sym same) is, whole went)

-- a front of the text of an answer
pub wrote_front : {E : Type 0} (answers : List ℕ → E → List ℕ
    → Type 0) (line : List ℕ) (left behind old new : Option (List ℕ)) (before now low high : ℕ) (end failed shown : E)
    (text : List ℕ)
    → (shown ≡ failed → Rose low high × TookFront old new text) → IfSome left (λ bytes. answers bytes end text)
    → shown ≡ failed → Rose low high × WroteAnswerFront answers line left behind before now old new
wrote_front answers line left behind old new before now low high end failed shown text fault is went =
    ((fault went).0, (text, inl (IfSome_then left is (λ bytes a. (end, a))), (fault went).1))

-- a front of the line of a read fault
pub fault_front : {E : Type 0} (answers : List ℕ → E → List ℕ
    → Type 0) (line : List ℕ) (left behind old new : Option (List ℕ)) (before now low high : ℕ) (failed shown : E)
    → (shown ≡ failed → Rose low high × TookFront old new line) → FailedReading left behind before now
    → shown ≡ failed → Rose low high × WroteAnswerFront answers line left behind before now old new
fault_front answers line left behind old new before now low high failed shown fault failure went =
    ((fault went).0, (line, inr (failure, refl), (fault went).1))
