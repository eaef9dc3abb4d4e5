-- No bytes are without a report at their front and without a fault.
use Rattle.std.proofs.Common.{◌≡◌, ℕ, zero, suc, ◌+◌, ◌<◌, ◌⊎◌, inl, inr, ⊎_elim, List, [], ◌∷◌, ◌++◌, length, drop, refl, sym, ap, ◌∙◌, arith, append_assoc}
use Rattle.std.proofs.lemmas.Bool.{cases_eq}
use Rattle.std.proofs.lemmas.List.{length-append, drop_at}
use Rattle.cp_report.specs.declared.kind.ReportKind.{ReportKind}
use Rattle.cp_report.specs.declared.kind.ReportKind.TheVariants.{WrongLine, NoLine}
use Rattle.cp_report.specs.declared.report.Report.{Report}
use Rattle.cp_report.specs.declared.report.Report.TheVariants.{No}
use Rattle.cp_report.specs.Faults.{IsLine, IsBegun, IsWrongBehind, kind_behind, IsFaultOf}
use Rattle.cp_report.specs.Faults.Breaks.{wrong, missing}
use Rattle.cp_report.specs.Texts.{report_lines, report_text, text_of, BeginsWith, IsWithinLimits}
use Rattle.cp_report.proofs.TextLemmas.{text-append}

-- the bytes begin with a report, or have a fault
abbrev IsRead : List ℕ → Type 0
IsRead bytes = ((r : Report) × (n : ℕ) × BeginsWith bytes r n) ⊎ ((kind : ReportKind) × (line : ℕ) × IsFaultOf bytes
    kind line)

-- a line feed is among the bytes, or none is
first_line : (bytes : List ℕ) → IsLine bytes ⊎ ((line : List ℕ) × (after : List ℕ) × IsLine line
    × (bytes ≡ line ++ 10 ∷ after))
first_line [] = inl tt
first_line (b ∷ bs) =
    ⊎_elim (λ same. inr ([], bs, tt, ap (λ (x : ℕ). x ∷ bs) same))
    (λ other. ⊎_elim (λ none. inl (other, none))
    (λ some. inr (b ∷ some.0, some.1, (other, some.2), ap (λ (xs : List ℕ). b ∷ xs) some.3)) (first_line bs))
    (cases_eq b 10)

-- a line behind some lines, in the text
line_behind : (lines : List (List ℕ)) (line after bytes rest : List ℕ) → bytes ≡ text_of lines ++ rest
    → rest ≡ line ++ 10 ∷ after → bytes ≡ text_of (lines ++ line ∷ []) ++ after
line_behind lines line after bytes rest front cut =
    let one : text_of (line ∷ []) ++ after ≡ line ++ 10 ∷ after =
    append_assoc (line ++ 10 ∷ []) [] after ∙ append_assoc line (10 ∷ []) after in
    front ∙ ap (λ (xs : List ℕ). text_of lines ++ xs) (cut ∙ sym one) ∙ sym (text-append lines (line ∷ []) after)

-- the lines of a report are at the front
whole_report : (r : Report) (lines : List (List ℕ)) (after bytes : List ℕ) → IsWithinLimits r → report_lines r ≡ lines
    → bytes ≡ text_of lines ++ after → BeginsWith bytes r (length (report_text r))
whole_report r lines after bytes within are front =
    let all : bytes ≡ report_text r ++ after = front ∙ ap (λ (ls : List (List ℕ)). text_of ls ++ after) (sym are) in
    let behind : drop (length (report_text r)) bytes ≡ after = ap (drop (length (report_text r))) all
    ∙ drop_at (report_text r) after (length (report_text r)) refl in
    record { within = within; whole = refl; front = all ∙ ap (λ (xs : List ℕ). report_text r ++ xs) (sym behind) }

-- a report that goes on with one more line stands at the front, or goes on behind it
goes_on : (bytes : List ℕ) (lines : List (List ℕ)) (line after : List ℕ) → ¬ IsRead bytes
    → (IsBegun (lines ++ line ∷ []) → ⊥)
    → bytes ≡ text_of (lines ++ line ∷ []) ++ after → (r : Report) (later : List (List ℕ)) → IsWithinLimits r
    → report_lines r ≡ lines ++ line ∷ later → ⊥
goes_on bytes lines line after none again here r [] within are =
    none (inl (r, length (report_text r), whole_report r (lines ++ line ∷ []) after bytes within are here))
goes_on bytes lines line after none again here r (next ∷ more) within are =
    let begins : report_lines r ≡ (lines ++ line ∷ []) ++ next ∷ more = are
    ∙ sym (append_assoc lines (line ∷ []) (next ∷ more)) in
    again (record { report = r; within = within; next = next; later = more; begins = begins })

-- bytes that begin with lines of a report are not without a report and without a fault
read_behind : (turns : ℕ) (bytes : List ℕ) (lines : List (List ℕ)) (rest : List ℕ) → bytes ≡ text_of lines ++ rest
    → IsBegun lines → length rest < turns → ¬ IsRead bytes → ⊥
read_behind zero bytes lines rest front begun short none = absurd (omega (arith, short))
read_behind (suc turns) bytes lines rest front begun short none =
    ⊎_elim
    (λ no_line. none (inr (
      kind_behind lines NoLine,
      length lines + 1,
      record
          { before = lines; rest = rest; front = front; begun = begun; breaks = missing no_line refl; place = refl },
    )))
    (λ some.
    let line = some.0 in
    let after = some.1 in
    let here : bytes ≡ text_of (lines ++ line ∷ []) ++ after = line_behind lines line after bytes rest front some.3 in
    let shorter : length after < turns = omega (arith, short, ap length some.3, length-append line (10 ∷ after)) in
    let again : IsBegun (lines ++ line ∷ [])
    → ⊥ = λ more. read_behind turns bytes (lines ++ line ∷ []) after here more shorter none in
    let wrong_behind : IsWrongBehind lines line = goes_on bytes lines line after none again here in
    none (inr (
      kind_behind lines WrongLine,
      length lines + 1,
      record {
        before = lines;
        rest = rest;
        front = front;
        begun = begun;
        breaks = wrong line after some.2 some.3 wrong_behind refl;
        place = refl;
      },
    )))
    (first_line rest)

-- no bytes are without a report and without a fault
pub some_reading : (bytes : List ℕ) → ¬ IsRead bytes → ⊥
some_reading bytes none =
    read_behind (suc (length bytes)) bytes [] bytes refl
    (record { report = No; within = tt; next = _; later = _; begins = refl }) (omega arith) none
